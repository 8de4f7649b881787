-- A unit is exposed exactly as demand 3 has it, by the letter of its verdict. A cutoff and a need at least 1, as the
-- table has them. Assumes nothing.
use Prim.Native.Nat.{ℕ, ◌<◌}
use mathlib.Core.Path.{◌≡◌, refl, sym, ◌∙◌}
use mathlib.Core.Logic.{◌↔◌}
use mathlib.Core.Bool.{Bool, true, ◌&&◌}
use mathlib.Core.List.{List}
use native.Mathlib.Omega.{arith}
use borrow.Author.Tests.{eq-eqb, eqb-true}
use Rattle.base.specs.Search.{any}
use Rattle.base.proofs.Elements.{any-mem}
use Rattle.base.proofs.Tests.{false-true, and-fst, and-snd}
use Rattle.tables.specs.Rows.{SupplyRow}
use Rattle.tables.specs.declared.constraint.ConstraintRow.{ConstraintRow}
use Rattle.market.specs.Parties.{party}
use Rattle.offers.specs.Relevant.{relevant}
use Rattle.offers.specs.Supply.{eligible}
use Rattle.choice.specs.Exposure.{exposed}
use Rattle.outcome.specs.Decision.{cleared, of_unit, unit_row, verdict_of, has_relevant, has_eligible, exposed_unit}
use Rattle.outcome.specs.Right.{RowOf, RelevantRow, EligibleRow, Exposed, failed, untested}
use Rattle.outcome.proofs.OneMarket.{relevant-same}
use Rattle.base.proofs.SearchLaws.{mem-any}
use Rattle.market.specs.Clearing.{need_of}
use Rattle.pivotal.specs.Test.{Verdict, U, P, F, verdict_letter}
use Rattle.outcome.proofs.TestRight.{cleared-clears, failed-tested}

-- a verdict is known by its letter
verdict-of-letter : (v w : Verdict) → verdict_letter v ≡ verdict_letter w → v ≡ w
verdict-of-letter U U e = refl
verdict-of-letter U P e = absurd (omega arith)
verdict-of-letter U F e = absurd (omega arith)
verdict-of-letter P U e = absurd (omega arith)
verdict-of-letter P P e = refl
verdict-of-letter P F e = absurd (omega arith)
verdict-of-letter F U e = absurd (omega arith)
verdict-of-letter F P e = absurd (omega arith)
verdict-of-letter F F e = refl

-- a row of the unit that passes a test
module _ (c : ConstraintRow) (rows : List SupplyRow) (u : ℕ) (p : SupplyRow → Bool) where
  row-passes : any (λ (r : SupplyRow). of_unit u r && p r) rows ≡ true → (r : SupplyRow) × RowOf rows u r × (p r ≡ true)
  unfolding of_unit
  row-passes e =
      let (r, m, t) = any-mem (λ (r : SupplyRow). of_unit u r && p r) rows e in
      (r, record { a-row = m; its-unit = eqb-true r.unit u (and-fst (of_unit u r) (p r) t) }, and-snd (of_unit u r) (p r) t)

  passes-row : (r : SupplyRow) → RowOf rows u r → p r ≡ true → any (λ (r : SupplyRow). of_unit u r && p r) rows ≡ true
  unfolding of_unit
  passes-row r i t = mem-any (λ (r : SupplyRow). of_unit u r && p r) i.a-row (simp (eq-eqb r.unit u i.its-unit, t))

module _ (c : ConstraintRow) (rows : List SupplyRow) (positive : 0 < c.cutoff) (some-need : 0 < need_of c.relief) (u : ℕ) where
  has-eligible : has_eligible c rows u ≡ true → EligibleRow c rows u
  unfolding has_eligible
  has-eligible e =
      let (r, i, t) = row-passes c rows u (eligible c.cutoff) e in
      record { row = r; of-the-unit = i; is-eligible = t }

  eligible-has : EligibleRow c rows u → has_eligible c rows u ≡ true
  unfolding has_eligible
  eligible-has x = passes-row c rows u (eligible c.cutoff) x.row x.of-the-unit x.is-eligible

  module _ (k : ℕ) (f : verdict_of c rows k ≡ F) where
    has-relevant : has_relevant c rows u ≡ true → RelevantRow c rows u
    unfolding has_relevant
    has-relevant e =
        let (r, i, t) = row-passes c rows u (relevant c.cutoff (cleared c rows)) e in
        record {
          row = r;
          of-the-unit = i;
          cleared = cleared c rows;
          clears = cleared-clears c rows positive some-need (failed-tested c rows k f);
          is-relevant = t;
        }

    relevant-has : RelevantRow c rows u → has_relevant c rows u ≡ true
    unfolding has_relevant
    relevant-has x =
        let d = cleared-clears c rows positive some-need (failed-tested c rows k f) in
        let one-market = relevant-same c.cutoff (need_of c.relief) rows positive x.cleared (cleared c rows) x.clears d in
        passes-row c rows u (relevant c.cutoff (cleared c rows)) x.row x.of-the-unit (sym (one-market x.row) ∙ x.is-relevant)

  says :
      (v : Verdict) (k : ℕ) → verdict_of c rows k ≡ v → exposed v (has_relevant c rows u) (has_eligible c rows u) ≡ true →
      Exposed c rows u (verdict_letter v)
  unfolding exposed
  says U k f e = untested refl (has-eligible e)
  says P k f e = false-true e
  says F k f e = failed refl (has-relevant k f e)

  tests :
      (v : Verdict) (k : ℕ) → verdict_of c rows k ≡ v → Exposed c rows u (verdict_letter v) →
      exposed v (has_relevant c rows u) (has_eligible c rows u) ≡ true
  unfolding exposed
  tests v k f (failed l x) =
      let is : v ≡ F = verdict-of-letter v F l in
      rw is (relevant-has k (f ∙ is) x)
  tests v k f (untested l x) = rw (verdict-of-letter v U l) (eligible-has x)

  pub exposed-right :
      (exposed_unit c rows u ≡ true) ↔ Exposed c rows u (verdict_letter (verdict_of c rows (party (unit_row rows u))))
  unfolding exposed_unit
  exposed-right =
      let k = party (unit_row rows u) in
      (says (verdict_of c rows k) k refl, tests (verdict_of c rows k) k refl)
