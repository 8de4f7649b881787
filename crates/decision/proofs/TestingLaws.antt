-- Laws of a unit's test: one for each way through the code. Assumes nothing.
use Rattle.std.specs.Prelude.{None, Option, Some}
use Rattle.pivotal.specs.declared.Tested.{Tested}
use Rattle.decision.specs.declared.standing.Cleared.{Cleared}
use Prim.Native.Nat.{ℕ, ◌≤◌, ◌<◌}
use mathlib.Core.Path.{◌≡◌, refl, sym, ◌∙◌, ap}
use mathlib.Core.Bool.{Bool, true, false}
use mathlib.Core.List.{List, Memᴰ}
use native.Mathlib.Omega.{arith}
use lib.ListN.{length, take, length-map, length-take}
use Rattle.base.proofs.Members.{member-at}
use Rattle.numbers.specs.Numbers.{place_of}
use Rattle.numbers.proofs.SearchLaws.{place-holds}
use Rattle.tables.specs.Rows.{SupplyRow}
use Rattle.tables.specs.declared.constraint.ConstraintRow.{ConstraintRow}
use Rattle.tables.specs.promises.FlatRows.{supply_rows}
use Rattle.cells.specs.promises.Views.{supply_at}
use Rattle.cells.proofs.RowViews.{supply-length}
use Rattle.market.specs.Clearing.{need_of, clearing}
use Rattle.market.specs.Parties.{party, parties, amount_of, amounts}
use Rattle.market.specs.Removals.{PartyOf}
use Rattle.market.proofs.AmountLaws.{amounts-limited}
use Rattle.market.proofs.LeastOverRows.{party-place}
use Rattle.offers.specs.Relevant.{relevant}
use Rattle.offers.specs.Supply.{no_row, row_at}
use Rattle.offers.proofs.CellLaws.{row-at}
use Rattle.pivotal.specs.Test.{left, test_verdict, U, P, F, verdict_letter, finding, test_outcome, tested}
use Rattle.pivotal.specs.declared.Finding.{Finding}
use Rattle.pivotal.proofs.Limits.{Limited, answered, not-refused}
use Rattle.choice.specs.Exposure.{exposed}
use Rattle.outcome.specs.Decision.{unit_row, untested, left_of, verdict_of, left_shown, has_relevant, has_eligible, exposed_unit}
use Rattle.decision.specs.promises.Standing.{MarketCells, standing, Stands}
use Rattle.decision.specs.promises.Testing.{unit_test, InMarket}
use Rattle.decision.specs.promises.Units.{UnitFound, any_of}
use Rattle.decision.proofs.StandingLaws.{clears-within, cleared-row}

-- what each standing says
module _ (c : ConstraintRow) (supply : List SupplyRow) where
  short-stands : untested c supply ≡ true → standing c supply ≡ None
  unfolding standing
  short-stands e = simp e

  cleared-stands : untested c supply ≡ false → standing c supply ≡ Some (record { row = clearing c.cutoff (need_of c.relief) supply; parties = length (parties supply) })
  unfolding standing
  cleared-stands e = simp e

  module _ (ps amounts' : List ℕ) {r : Option Cleared} (stands : Stands c supply ps amounts' r) where
    pub was-short : r ≡ None → untested c supply ≡ true
    was-short e = go (untested c supply) refl
      where
        go : (t : Bool) → untested c supply ≡ t → untested c supply ≡ true
        go true f = f
        go false f = let z : ◌≡◌ {A = ℕ} 0 1 = cc (stands.answers, e, cleared-stands f) in absurd (omega arith)

    pub was-cleared :
        {m : Cleared} → r ≡ Some m →
        (m.parties ≡ length (parties supply)) × InMarket c supply m.row (take m.parties ps) (take m.parties amounts')
    was-cleared {m} e = go (untested c supply) refl
      where
        go : (t : Bool) → untested c supply ≡ t → (m.parties ≡ length (parties supply)) × InMarket c supply m.row (take m.parties ps) (take m.parties amounts')
        go true f = let z : ◌≡◌ {A = ℕ} 0 1 = cc (stands.answers, e, short-stands f) in absurd (omega arith)
        go false f =
            let same : ◌≡◌ {A = Cleared} m (record { row = clearing c.cutoff (need_of c.relief) supply; parties = length (parties supply) }) = cc (stands.answers, e, cleared-stands f) in
            let counted = ap (λ (k : Cleared). k.parties) same in
            let clears = ap (λ (k : Cleared). k.row) same in
            (counted, record { enough = f; clears = clears; all-parties = rw counted (stands.listed f); all-amounts = rw counted (stands.added f) })

    -- as the parts that are lent
    pub lent-market :
        {m : Cleared} → r ≡ Some m → (k : ℕ) → k ≡ m.parties → InMarket c supply m.row (take k ps) (take k amounts')
    lent-market e k f = rw f (was-cleared e).1

    -- the parties and amounts reach as far as there are parties
    pub parties-reach : {m : Cleared} → r ≡ Some m → (m.parties ≤ length ps) × (m.parties ≤ length amounts')
    unfolding amounts
    parties-reach {m} e =
        let (counted, found) = was-cleared e in
        let all : length (take m.parties ps) ≡ m.parties = ap length found.all-parties ∙ sym counted in
        let each : length (take m.parties amounts') ≡ m.parties = ap length found.all-amounts ∙ amounts-length _ ∙ sym counted in
        (reach ps all, reach amounts' each)
      where
        amounts-length : (q : SupplyRow) → length (amounts c.cutoff q supply) ≡ length (parties supply)
        amounts-length q = length-map (parties supply) (amount_of c.cutoff q supply)

        reach : (l : List ℕ) → length (take m.parties l) ≡ m.parties → m.parties ≤ length l
        reach l z = omega (arith, length-take m.parties l)

-- the test of a unit, whose row is w
module _ (c : ConstraintRow) (supply : List SupplyRow) (u : ℕ) (w : SupplyRow) (found : w ≡ unit_row supply u) (x : ℕ) (its : x ≡ w.supplier) where
  supplier-shown : x ≡ (unit_row supply u).supplier
  supplier-shown = its ∙ ap (λ (r : SupplyRow). r.supplier) found

  pub test_short :
      untested c supply ≡ true → (e : Bool) → e ≡ has_eligible c supply u →
      record { unit = u; supplier = x; verdict = verdict_letter U; left = 0; exposed = e } ≡ unit_test c supply u
  unfolding unit_test verdict_of left_shown exposed_unit exposed
  test_short f e g = simp (f, g, supplier-shown)

  module _ (enough : untested c supply ≡ false) (remains : ℕ) (l : remains ≡ left_of c supply (party (unit_row supply u))) where
    pub test-failed :
        F ≡ test_verdict remains (need_of c.relief) → (e : Bool) → e ≡ has_relevant c supply u →
        record { unit = u; supplier = x; verdict = verdict_letter F; left = remains; exposed = e } ≡ unit_test c supply u
    unfolding unit_test verdict_of left_shown exposed_unit exposed
    test-failed f e g =
        let fails : test_verdict (left_of c supply (party (unit_row supply u))) (need_of c.relief) ≡ F = sym (rw l at f) in
        simp (enough, fails, g, supplier-shown, l)

    pub test-passed :
        P ≡ test_verdict remains (need_of c.relief) →
        record { unit = u; supplier = x; verdict = verdict_letter P; left = remains; exposed = false } ≡ unit_test c supply u
    unfolding unit_test verdict_of left_shown exposed_unit exposed
    test-passed f =
        let passes : test_verdict (left_of c supply (party (unit_row supply u))) (need_of c.relief) ≡ P = sym (rw l at f) in
        simp (enough, passes, supplier-shown, l)

module _
    (c : ConstraintRow) (n : ℕ) (cells : List ℕ) (market : MarketCells c n cells) {q : ℕ} {ps amounts' : List ℕ}
    (in-market : InMarket c (supply_rows n cells) q ps amounts')
  where
    -- whether the unit has a relevant row, as the code asks it
    pub relevant-wanted :
        (u : ℕ) (e : Bool) →
        e ≡ any_of u (relevant c.cutoff (supply_at cells q)) (supply_rows n cells) → e ≡ has_relevant c (supply_rows n cells) u
    unfolding has_relevant
    relevant-wanted u e f = rw (← cleared-row c n cells market in-market.enough q in-market.clears) f

    pub market-clears : q < n
    market-clears = omega (arith, in-market.clears, clears-within c n cells market in-market.enough)

    market-limited : Limited amounts'
    market-limited =
        rw in-market.all-amounts
        (amounts-limited _ _ (supply_rows n cells) market.rows.permitted (omega (arith, supply-length n cells, market.rows.few)) market.few-parties)

    -- the test of the party of a unit, whose row was found
    module _
        (u row : ℕ) (found : UnitFound u n cells row) {k place need : ℕ}
        (its : k ≡ party (supply_at cells row)) (placed : place ≡ place_of k ps) (needed : need ≡ need_of c.relief)
      where
        row-there : Memᴰ (supply_at cells row) (supply_rows n cells)
        unfolding row_at
        row-there =
            rw (← row-at n cells row found.within)
            (member-at no_row (supply_rows n cells) row (omega (arith, found.within, supply-length n cells)))

        -- it has a place among the amounts
        party-there : place < length amounts'
        unfolding amounts
        party-there =
            let k' = party (supply_at cells row) in
            let its-party : PartyOf (supply_rows n cells) k' = record { row = supply_at cells row; a-row = row-there; its-party = refl } in
            rw (placed, its, in-market.all-parties, in-market.all-amounts, length-map)
            (place-holds k' (parties (supply_rows n cells)) (party-place (supply_rows n cells) k' its-party)).0

        remains-left : left amounts' place ≡ left_of c (supply_rows n cells) (party (unit_row (supply_rows n cells) u))
        unfolding left_of
        remains-left = rw (placed, its, found.found, in-market.all-parties, in-market.all-amounts)

        module _ {r : Option Tested} (answers : test_outcome r ≡ tested amounts' place need) where
          pub party-tested :
              {t : Tested} {w : Finding} → r ≡ Some t → t.found ≡ w →
              (t.left ≡ left_of c (supply_rows n cells) (party (unit_row (supply_rows n cells) u))) × (finding w ≡ test_verdict t.left (need_of c.relief))
          party-tested {t} e f =
              let (remains, verdict) = answered amounts' place need market-limited party-there t (sym (ap test_outcome e) ∙ answers) in
              (remains ∙ remains-left, rw (← f, remains, ← needed) verdict)

          pub party-not-refused : r ≡ None → ⊥
          party-not-refused e = not-refused amounts' place need market-limited party-there (sym (ap test_outcome e) ∙ answers)
