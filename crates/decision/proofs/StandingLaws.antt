-- Laws of how the market stands, and of a unit's test in it. Assumes nothing.
use Rattle.std.specs.Prelude.{None, Some}
use Prim.Native.Nat.{ℕ, ◌≤◌, ◌<◌}
use mathlib.Core.Path.{◌≡◌, refl, sym, ◌∙◌, ap}
use mathlib.Core.Bool.{true, false}
use mathlib.Core.List.{List, ◌++◌, map}
use native.Mathlib.Omega.{arith}
use borrow.Author.Tests.{lt-ltb, le-ltb}
use lib.ListN.{take, drop, length-map}
use lib.Seq.{take_at}
use Rattle.base.specs.promises.Writing.{Wrote}
use Rattle.tables.specs.Rows.{SupplyRow}
use Rattle.tables.specs.declared.constraint.ConstraintRow.{ConstraintRow}
use Rattle.tables.specs.Table.{constraint_columns, supply_columns, schedules_columns}
use Rattle.tables.specs.promises.FlatRows.{supply_rows}
use Rattle.tables.specs.promises.Columns.{all_columns, column_at}
use Rattle.cells.proofs.RowViews.{supply-length}
use Rattle.market.specs.Clearing.{need_of, short, clearing, clearing_row, eligible_supply}
use Rattle.market.specs.Parties.{parties, amount_of, amounts}
use Rattle.cells.specs.promises.Views.{supply_at}
use Rattle.offers.specs.promises.Ranges.{most_relief}
use Rattle.offers.proofs.CellLaws.{row-at}
use Rattle.market.proofs.ClearingLaws.{clearing-clears}
use Rattle.outcome.specs.Decision.{untested, cleared}
use Rattle.decision.specs.promises.Standing.{MarketCells, standing, Stands}

module _ (c : ConstraintRow) (n : ℕ) (cells : List ℕ) (market : MarketCells c n cells) where
  pub relief-fits : c.relief ≤ most_relief
  unfolding column_at all_columns constraint_columns supply_columns schedules_columns
  relief-fits = market.permitted.relief

  some-need : 0 < need_of c.relief
  unfolding need_of
  some-need = omega (arith, market.permitted.some-relief)

  -- a market that is not short has a row that clears
  module _ (enough : untested c (supply_rows n cells) ≡ false) where
    pub clears-within : clearing c.cutoff (need_of c.relief) (supply_rows n cells) < n
    unfolding untested
    clears-within =
        omega (
          arith,
          (clearing-clears c.cutoff (need_of c.relief) (supply_rows n cells) (omega (arith, market.permitted.some-cutoff)) some-need enough).0,
          supply-length n cells,
        )

    pub cleared-row :
        (q : ℕ) → q ≡ clearing c.cutoff (need_of c.relief) (supply_rows n cells) →
        supply_at cells q ≡ cleared c (supply_rows n cells)
    unfolding cleared clearing_row
    cleared-row q e = rw e (sym (row-at n cells _ clears-within))

module _ (c : ConstraintRow) (supply : List SupplyRow) (x y : ℕ) (e : x ≡ eligible_supply c.cutoff supply) (f : y ≡ need_of c.relief) where
  pub is-short : x < y → untested c supply ≡ true
  unfolding untested short
  is-short h = lt-ltb (eligible_supply c.cutoff supply) (need_of c.relief) (omega (arith, h, e, f))

  pub is-enough : y ≤ x → untested c supply ≡ false
  unfolding untested short
  is-enough h = le-ltb (eligible_supply c.cutoff supply) (need_of c.relief) (omega (arith, h, e, f))

  pub stands-short : x < y → (ps amounts' : List ℕ) → Stands c supply ps amounts' None
  unfolding standing
  stands-short h ps amounts' =
      record {
        answers = simp (is-short h);
        listed = λ z. absurd (no (sym (is-short h) ∙ z));
        added = λ z. absurd (no (sym (is-short h) ∙ z));
      }
    where
      no : true ≡ false → ⊥
      no z = let o : ◌≡◌ {A = ℕ} 0 1 = cc in omega arith

-- what was listed and added, as the calls say it
module _
    (c : ConstraintRow) (n : ℕ) (cells : List ℕ) (market : MarketCells c n cells)
    (enough : untested c (supply_rows n cells) ≡ false)
    (q count : ℕ) (old ps old-amounts amounts' : List ℕ)
    (y : ℕ) (its-need : y ≡ need_of c.relief)
    (found : q ≡ clearing c.cutoff y (supply_rows n cells))
    (listed : Wrote (parties (supply_rows n cells)) count old ps)
  where
    clears : q ≡ clearing c.cutoff (need_of c.relief) (supply_rows n cells)
    clears = found ∙ ap (λ (z : ℕ). clearing c.cutoff z (supply_rows n cells)) its-need

    pub listed-all : take count ps ≡ parties (supply_rows n cells)
    listed-all = rw (listed.written, listed.counted) (take_at (parties (supply_rows n cells)) _ _ refl)

    pub count-few : count ≤ 32
    count-few = omega (arith, listed.counted, market.few-parties)

    pub clears-inside : q < n
    clears-inside = omega (arith, clears, clears-within c n cells market enough)

    amount : ℕ → ℕ
    amount = amount_of c.cutoff (cleared c (supply_rows n cells)) (supply_rows n cells)

    pub stands-cleared :
        amounts' ≡ map (amount_of c.cutoff (supply_at cells q) (supply_rows n cells)) (take count ps) ++ drop count old-amounts →
        Stands c (supply_rows n cells) ps amounts' (Some (record { row = q; parties = count }))
    unfolding standing amounts amount
    stands-cleared added =
        record {
          answers = simp (enough, clears, listed.counted);
          listed = λ _. rw (← listed.counted) listed-all;
          added =
              λ _.
              rw (added, listed-all, cleared-row c n cells market enough q clears)
              (take_at (map amount (parties (supply_rows n cells))) (drop count old-amounts) _ (length-map (parties (supply_rows n cells)) amount));
        }
