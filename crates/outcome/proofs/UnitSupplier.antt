-- The supplier of a unit: each unit of the file has a row, and all its rows have one supplier. Assumes nothing.
use Rattle.std.specs.Prelude.{None}
use Prim.Native.Nat.{ℕ}
use mathlib.Core.Path.{◌≡◌, sym, ◌∙◌}
use mathlib.Core.Bool.{true, false, ◌&&◌}
use mathlib.Core.List.{List, Memᴰ as Among}
use lib.Dec.{eqb}
use borrow.Author.Tests.{eq-eqb, eqb-true, not-false}
use Rattle.base.proofs.Tests.{and-fst, and-snd}
use Rattle.tables.specs.Rows.{SupplyRow}
use Rattle.supply.specs.Supply.{units, supply_odds, supply_at_odds}
use Rattle.supply.proofs.UnitLaws.{among-units}
use Rattle.offers.specs.Supply.{no_row}
use Rattle.outcome.specs.Decision.{of_unit, unit_row}
use Rattle.outcome.specs.Right.{RowOf}
use Rattle.base.proofs.SearchLaws.{among-true, found, Agree, same, behind, before, agree}

-- "Rows of one unit share supplier and dfax."
pub record Shares (r e : SupplyRow) : Type 0 where
  pub supplier : r.supplier ≡ e.supplier
  pub dfax : r.dfax ≡ e.dfax

not-at-odds : (r e : SupplyRow) → r.unit ≡ e.unit → supply_odds r e ≡ false → Shares r e
unfolding supply_odds
not-at-odds r e u f =
    let suppliers = eqb r.supplier e.supplier in
    let dfaxes = eqb r.dfax e.dfax in
    let both : (suppliers && dfaxes) ≡ true = not-false _ (simp (eq-eqb r.unit e.unit u) at f) in
    record {
      supplier = eqb-true _ _ (and-fst suppliers dfaxes both);
      dfax = eqb-true _ _ (and-snd suppliers dfaxes both);
    }

pub unit-shares :
    (rows : List SupplyRow) → supply_at_odds rows ≡ None → (r e : SupplyRow) → Among r rows → Among e rows → r.unit ≡ e.unit →
    Shares r e
unfolding supply_at_odds
unit-shares rows f r e m n u = go (agree supply_odds 1 f m n)
  where
    go : Agree supply_odds r e → Shares r e
    go (same i) = record { supplier = rw i; dfax = rw i }
    go (behind o) = not-at-odds r e u o
    go (before o) =
        let s = not-at-odds e r (sym u) o in
        record { supplier = sym s.supplier; dfax = sym s.dfax }

-- a unit of the file has a row
pub unit_row_lem : (rows : List SupplyRow) (u : ℕ) → Among u (units rows) → RowOf rows u (unit_row rows u)
unfolding unit_row of_unit
unit_row_lem rows u m =
    let (a-row, its-unit) = found (of_unit u) no_row rows (sym (among-units u rows) ∙ among-true m) in
    record { a-row = a-row; its-unit = eqb-true _ _ its-unit }

-- and each of its rows has the supplier of that one
pub unit-supplier :
    (rows : List SupplyRow) → supply_at_odds rows ≡ None → (u : ℕ) → Among u (units rows) →
    (w : SupplyRow) → RowOf rows u w → (unit_row rows u).supplier ≡ w.supplier
unit-supplier rows f u m w i =
    let j = unit_row_lem rows u m in
    (unit-shares rows f (unit_row rows u) w j.a-row i.a-row (j.its-unit ∙ sym i.its-unit)).supplier
