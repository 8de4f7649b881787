-- That the cells of a file that is read are within the table's ranges, and what that says of its rows by name. Assumes
-- nothing.
use Rattle.std.specs.Prelude.{None, Option, Some, option_map, unwrap_or}
use Prim.Native.Nat.{ℕ, ◌+◌, ◌-◌, ◌≤◌}
use mathlib.Core.Path.{◌≡◌, refl}
use mathlib.Core.Logic.{◌⊎◌, inl, inr}
use mathlib.Core.Bool.{Bool, true, false, cond}
use mathlib.Core.List.{List, [], ◌∷◌}
use native.Mathlib.Omega.{arith}
use lib.Dec.{eqb}
use lib.ListN.{length}
use Rattle.base.specs.Text.{same}
use Rattle.base.proofs.Tests.{and-fst, and-snd, false-true}
use Rattle.numeral.specs.Numeral.{number, within}
use Rattle.numeral.proofs.Laws.{within-some}
use Rattle.tables.specs.promises.Ranges.{
  Permits,
  PermittedCells,
  none as no_cell,
  more as one_Cell,
  PermittedConstraint,
  PermittedSupply,
  PermittedSchedule,
  PermittedPoint,
  PermittedParent,
}
use Rattle.tables.specs.Rows.{constraint_row, supply_row, schedule_row, point_row, parent_row}
use Rattle.tables.specs.declared.columns.Form.{Form}
use Rattle.tables.specs.declared.columns.Form.TheVariants.{Numeral as numeral, Signed as signed, Letter as letter}
use Rattle.tables.specs.Table.{Column, constraint_columns, supply_columns, schedules_columns, curves_columns, parents_columns}
use Rattle.tables.specs.Values.{MINUS, excess, one_of, in_form, value, is_some, cells, well_formed}

mapped : (f : ℕ → ℕ) (o : Option ℕ) (x : ℕ) → option_map f o ≡ Some x → (n : ℕ) × (o ≡ Some n) × (x ≡ f n)
mapped f None x e = let z : ◌≡◌ {A = ℕ} 0 1 = cc in absurd (omega arith)
mapped f (Some n) x e = (n, refl, cc)

excess-permitted : (lo hi : ℕ) (v : List ℕ) (x : ℕ) → excess lo hi v ≡ Some x → x ≤ lo + hi
unfolding excess
excess-permitted lo hi [] x e = let z : ◌≡◌ {A = ℕ} 0 1 = cc in absurd (omega arith)
excess-permitted lo hi (b ∷ s) x e = go (eqb b MINUS) e
  where
    go :
        (t : Bool) →
        cond t (option_map (λ (n : ℕ). lo - n) (within 1 lo (number s))) (option_map (λ (n : ℕ). lo + n) (within 0 hi (number (b ∷ s))))
        ≡ Some x → x ≤ lo + hi
    go true e =
        let m = mapped (λ (n : ℕ). lo - n) (within 1 lo (number s)) x e in
        omega (arith, m.2)
    go false e =
        let m = mapped (λ (n : ℕ). lo + n) (within 0 hi (number (b ∷ s))) x e in
        omega (arith, m.2, (within-some 0 hi m.0 (number (b ∷ s)) m.1).2)

letter-permitted : (a b : ℕ) (v : List ℕ) (x : ℕ) → one_of a b v ≡ Some x → (x ≡ a) ⊎ (x ≡ b)
unfolding one_of
letter-permitted a b v x e = go (same v (a ∷ [])) (same v (b ∷ [])) e
  where
    go : (p q : Bool) → cond p (Some a) (cond q (Some b) None) ≡ Some x → (x ≡ a) ⊎ (x ≡ b)
    go true q e = inl cc
    go false true e = inr cc
    go false false e = let z : ◌≡◌ {A = ℕ} 0 1 = cc in absurd (omega arith)

form-permitted : (f : Form) (lo hi : ℕ) (v : List ℕ) (x : ℕ) → in_form f lo hi v ≡ Some x → Permits f lo hi x
unfolding in_form
form-permitted numeral lo hi v x e = ((within-some lo hi x (number v) e).1, (within-some lo hi x (number v) e).2)
form-permitted signed lo hi v x e = excess-permitted lo hi v x e
form-permitted letter lo hi v x e = letter-permitted lo hi v x e

value-permitted : (c : Column) (v : List ℕ) → is_some (value c v) ≡ true → Permits c.form c.minimum c.maximum (unwrap_or (value c v) 0)
unfolding value is_some
value-permitted c v e = go (value c v) refl e
  where
    go : (o : Option ℕ) → value c v ≡ o → is_some o ≡ true → Permits c.form c.minimum c.maximum (unwrap_or o 0)
    go None q e = false-true e
    go (Some x) q e = form-permitted c.form c.minimum c.maximum v x q

-- a well-formed row of as many fields as columns
pub row-permitted :
    (cs : List Column) (vs : List (List ℕ)) → length vs ≡ length cs → well_formed cs vs ≡ true → PermittedCells cs (cells cs vs)
unfolding cells well_formed
row-permitted [] vs n e = no_cell
row-permitted (c ∷ cs) [] n e = absurd (omega arith)
row-permitted (c ∷ cs) (v ∷ vs) n e =
    one_Cell (value-permitted c v (and-fst (is_some (value c v)) (well_formed cs vs) e))
    (row-permitted cs vs (omega arith) (and-snd (is_some (value c v)) (well_formed cs vs) e))

-- what that says by name
pub constraint-permitted : {xs : List ℕ} → PermittedCells constraint_columns xs → PermittedConstraint (constraint_row xs)
unfolding constraint_columns
constraint-permitted (one_Cell h (one_Cell r (one_Cell c no_cell))) =
    record { hour = h.1; some-relief = r.0; relief = r.1; some-cutoff = c.0; cutoff = c.1 }

pub supply-permitted : {xs : List ℕ} → PermittedCells supply_columns xs → PermittedSupply (supply_row xs)
unfolding supply_columns
supply-permitted (one_Cell u (one_Cell s (one_Cell m (one_Cell c (one_Cell d no_cell))))) =
    record {
      some-unit = u.0;
      unit = u.1;
      some-supplier = s.0;
      supplier = s.1;
      some-mw = m.0;
      mw = m.1;
      cost = c.1;
      dfax = d;
    }

pub schedule-permitted : {xs : List ℕ} → PermittedCells schedules_columns xs → PermittedSchedule (schedule_row xs)
unfolding schedules_columns
schedule-permitted
    (one_Cell u
    (one_Cell s (one_Cell k (one_Cell h (one_Cell e (one_Cell p (one_Cell n (one_Cell t (one_Cell m no_cell)))))))))
    =
    record {
      some-unit = u.0;
      unit = u.1;
      some-schedule = s.0;
      schedule = s.1;
      kind = k;
      hour = h.1;
      ecomin = e.1;
      price = p.1;
      noload = n.1;
      startup = t.1;
      some-minrun = m.0;
      minrun = m.1;
    }

pub point-permitted : {xs : List ℕ} → PermittedCells curves_columns xs → PermittedPoint (point_row xs)
unfolding curves_columns
point-permitted (one_Cell u (one_Cell s (one_Cell h (one_Cell m (one_Cell p no_cell))))) =
    record {
      some-unit = u.0;
      unit = u.1;
      some-schedule = s.0;
      schedule = s.1;
      hour = h.1;
      mw = m.1;
      price = p.1;
    }

pub parent-permitted : {xs : List ℕ} → PermittedCells parents_columns xs → PermittedParent (parent_row xs)
unfolding parents_columns
parent-permitted (one_Cell s (one_Cell p no_cell)) =
    record { some-supplier = s.0; supplier = s.1; some-parent = p.0; parent = p.1 }
