-- Laws of the table: what stands at a column's place in the code's tables is what the column says. Assumes nothing.
use Rattle.std.specs.Prelude.{Option}
use Prim.Native.Nat.{ℕ, ◌≤◌, ◌<◌}
use mathlib.Core.Path.{◌≡◌, refl, sym, ◌∙◌}
use mathlib.Core.Bool.{true, false}
use mathlib.Core.List.{List, map}
use lib.Dec.{leb}
use lib.ListN.{get_or, get_or-map}
use borrow.Author.Tests.{le-leb, lt-leb}
use Rattle.base.proofs.Lists.{all_at_most, at-most}
use Rattle.tables.specs.Table.{Column, column, constraint_columns, supply_columns, schedules_columns, curves_columns, parents_columns}
use Rattle.tables.specs.declared.columns.Form.{Form}
use Rattle.tables.specs.declared.columns.Form.TheVariants.{Numeral as numeral}
use Rattle.tables.specs.Values.{value, in_form, in_column}
use Rattle.tables.specs.promises.Columns.{all_columns, column_at}

abbrev pub forms : List Form
forms = map (λ (c : Column). c.form) all_columns

abbrev pub minima : List ℕ
minima = map (λ (c : Column). c.minimum) all_columns

abbrev pub maxima : List ℕ
maxima = map (λ (c : Column). c.maximum) all_columns

module _ (i : ℕ) where
  pub form-at : get_or forms i numeral ≡ (column_at i).form
  unfolding column_at
  form-at = get_or-map (λ (c : Column). c.form) all_columns i (column "" numeral 0 0)

  pub minimum-at : get_or minima i 0 ≡ (column_at i).minimum
  unfolding column_at
  minimum-at = get_or-map (λ (c : Column). c.minimum) all_columns i (column "" numeral 0 0)

  pub maximum-at : get_or maxima i 0 ≡ (column_at i).maximum
  unfolding column_at
  maximum-at = get_or-map (λ (c : Column). c.maximum) all_columns i (column "" numeral 0 0)

  pub minimum-small : get_or minima i 0 ≤ 100000000
  minimum-small = at-most 100000000 minima computed i
    where
      computed : all_at_most 100000000 minima ≡ true
      computed = unfold all_at_most all_columns constraint_columns supply_columns schedules_columns curves_columns parents_columns in refl

  pub maximum-small : get_or maxima i 0 ≤ 100000000
  maximum-small = at-most 100000000 maxima computed i
    where
      computed : all_at_most 100000000 maxima ≡ true
      computed = unfold all_at_most all_columns constraint_columns supply_columns schedules_columns curves_columns parents_columns in refl

-- a number below the minimum, and any other
module _ (i x : ℕ) where
  pub below-column : x < get_or minima i 0 → false ≡ in_column (column_at i) x
  unfolding in_column
  below-column h = rw (← minimum-at i, lt-leb (get_or minima i 0) x h)

  pub from-minimum : get_or minima i 0 ≤ x → leb x (get_or maxima i 0) ≡ in_column (column_at i) x
  unfolding in_column
  from-minimum h = rw (← minimum-at i, ← maximum-at i, le-leb (get_or minima i 0) x h)

-- a column's form decides how its fields are read
module _ (c : Column) (t : List ℕ) where
  value-by : (f : Form) → c.form ≡ f → in_form f c.minimum c.maximum t ≡ value c t
  unfolding value
  value-by f e = rw e

-- the same by a column's place in the code's tables
module _ (i : ℕ) (t : List ℕ) {r : Option ℕ} where
  pub cell-value :
      (f : Form) → get_or forms i numeral ≡ f → r ≡ in_form f (get_or minima i 0) (get_or maxima i 0) t → r ≡ value (column_at i) t
  cell-value f e g = (rw (minimum-at i, maximum-at i) at g) ∙ value-by (column_at i) t f (sym (form-at i) ∙ e)
