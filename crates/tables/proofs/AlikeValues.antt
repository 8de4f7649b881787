-- What a file's table makes of a field is the same for its value and for its text without the quotes around it: the two
-- differ only where both hold a DQUOTE, and no numeral, no letter and no name of a column does. Assumes nothing.
use Rattle.std.specs.Prelude.{None, Option}
use Prim.Native.Nat.{ℕ}
use mathlib.Core.Path.{◌≡◌, refl, sym, ◌∙◌}
use mathlib.Core.Bool.{Bool, true, false, cond, not, ◌&&◌, and-false}
use mathlib.Core.List.{List, [], ◌∷◌, ◌++◌, map}
use native.Mathlib.Omega.{arith}
use lib.Dec.{eqb}
use borrow.Author.Tests.{eqb-false, ne_eqb, not-true}
use Rattle.base.specs.Text.{same}
use Rattle.base.proofs.Tests.{and-fst, and-snd}
use Rattle.base.specs.promises.Counting.{leading}
use Rattle.csv_text.proofs.Walk.{Alike}
use Rattle.csv_text.proofs.Texts.{Alikes, no_field, field, AlikeRecords, no_record, record_of}
use Rattle.csv_text.specs.Bytes.{DQUOTE}
use Rattle.numeral.specs.Numeral.{number, within}
use Rattle.numeral.proofs.Laws.{no-numeral-around}
use Rattle.tables.specs.declared.files.File.{File}
use Rattle.tables.specs.declared.files.File.TheVariants.{Constraint, Supply, Schedules, Curves, Parents}
use Rattle.tables.specs.declared.columns.Form.{Form}
use Rattle.tables.specs.declared.columns.Form.TheVariants.{Numeral as numeral, Signed as signed, Letter as letter}
use Rattle.tables.specs.Table.{Column, constraint_columns, supply_columns, schedules_columns, curves_columns, parents_columns, table, header}
use Rattle.tables.specs.Values.{MINUS, excess, one_of, in_form, value, cells, well_formed}
use Rattle.tables.specs.Reading.{same_fields}

-- whether a text holds no DQUOTE
unfoldable pub quoteless : List ℕ → Bool
quoteless [] = true
quoteless (b ∷ s) = not (eqb b DQUOTE) && quoteless s

module _ (b : ℕ) (s : List ℕ) (h : quoteless (b ∷ s) ≡ true) where
  quoteless-first : b ≡ DQUOTE → ⊥
  unfolding quoteless
  quoteless-first = eqb-false b DQUOTE (not-true (eqb b DQUOTE) (and-fst (not (eqb b DQUOTE)) (quoteless s) h))

  quoteless-rest : quoteless s ≡ true
  unfolding quoteless
  quoteless-rest = and-snd (not (eqb b DQUOTE)) (quoteless s) h

-- A text with a DQUOTE in it.
module _ (e : List ℕ) where
  quoted-differs : (a w : List ℕ) → quoteless w ≡ true → same (a ++ DQUOTE ∷ e) w ≡ false
  unfolding same
  quoted-differs [] [] h = refl
  quoted-differs [] (c ∷ w) h = simp (ne_eqb DQUOTE c (λ z. quoteless-first c w h (sym z)))
  quoted-differs (b ∷ a) [] h = refl
  quoted-differs (b ∷ a) (c ∷ w) h = rw (quoted-differs a w (quoteless-rest c w h)) (and-false (eqb b c))

  quoted-number : (a : List ℕ) (least most : ℕ) → within least most (number (a ++ DQUOTE ∷ e)) ≡ None
  unfolding within
  quoted-number a least most = rw (no-numeral-around a e DQUOTE (λ d. omega arith))

  quoted-excess : (a : List ℕ) (minimum maximum : ℕ) → excess minimum maximum (a ++ DQUOTE ∷ e) ≡ None
  unfolding excess
  quoted-excess [] minimum maximum = rw (quoted-number [] 0 maximum)
  quoted-excess (b ∷ a) minimum maximum =
      rw (quoted-number a 1 minimum, quoted-number (b ∷ a) 0 maximum) (go (eqb b MINUS))
    where
      go : (t : Bool) → ◌≡◌ {A = Option ℕ} (cond t None None) None
      go true = refl
      go false = refl

  module _ (minimum maximum : ℕ) (low : minimum ≡ DQUOTE → ⊥) (high : maximum ≡ DQUOTE → ⊥) where
    quoted-letter : (a : List ℕ) → one_of minimum maximum (a ++ DQUOTE ∷ e) ≡ None
    unfolding one_of quoteless
    quoted-letter a =
        simp (
          quoted-differs a (minimum ∷ []) (simp (ne_eqb minimum DQUOTE low)),
          quoted-differs a (maximum ∷ []) (simp (ne_eqb maximum DQUOTE high)),
        )

    quoted-value : (form : Form) (a : List ℕ) → in_form form minimum maximum (a ++ DQUOTE ∷ e) ≡ None
    unfolding in_form
    quoted-value numeral a = quoted-number a minimum maximum
    quoted-value signed a = quoted-excess a minimum maximum
    quoted-value letter a = quoted-letter a

pub value-alike :
    (c : Column) → (c.minimum ≡ DQUOTE → ⊥) → (c.maximum ≡ DQUOTE → ⊥) → {v w : List ℕ} → Alike v w →
    value c v ≡ value c w
unfolding value
value-alike c low high Alike.same = refl
value-alike c low high (Alike.quotes a e a' e') =
    quoted-value e c.minimum c.maximum low high c.form a
    ∙ sym (quoted-value e' c.minimum c.maximum low high c.form a')

pub same_alike : (name : List ℕ) {v w : List ℕ} → quoteless name ≡ true → Alike v w → same v name ≡ same w name
same_alike name h Alike.same = refl
same_alike name h (Alike.quotes a e a' e') = quoted-differs e a name h ∙ sym (quoted-differs e' a' name h)

-- one test over all columns of a table, which computes
unfoldable pub quoteless_columns : List Column → Bool
quoteless_columns [] = true
quoteless_columns (c ∷ cs) = quoteless (c.minimum ∷ c.maximum ∷ c.name) && quoteless_columns cs

pub table-quoteless : (f : File) → quoteless_columns (table f).columns ≡ true
unfolding quoteless_columns quoteless constraint_columns supply_columns schedules_columns curves_columns parents_columns
table-quoteless Constraint = refl
table-quoteless Supply = refl
table-quoteless Schedules = refl
table-quoteless Curves = refl
table-quoteless Parents = refl

-- what the test says of a column
pub record QuotelessColumn (c : Column) : Type 0 where
  pub minimum : c.minimum ≡ DQUOTE → ⊥
  pub maximum : c.maximum ≡ DQUOTE → ⊥
  pub name : quoteless c.name ≡ true

module _ (c : Column) (cs : List Column) (h : quoteless_columns (c ∷ cs) ≡ true) where
  pub column-quoteless : QuotelessColumn c
  unfolding quoteless_columns
  column-quoteless =
      let all = and-fst (quoteless (c.minimum ∷ c.maximum ∷ c.name)) (quoteless_columns cs) h in
      let rest = quoteless-rest c.minimum (c.maximum ∷ c.name) all in
      record {
        minimum = quoteless-first c.minimum (c.maximum ∷ c.name) all;
        maximum = quoteless-first c.maximum c.name rest;
        name = quoteless-rest c.maximum c.name rest;
      }

  pub columns-quoteless : quoteless_columns cs ≡ true
  unfolding quoteless_columns
  columns-quoteless = and-snd (quoteless (c.minimum ∷ c.maximum ∷ c.name)) (quoteless_columns cs) h

-- the cells of a row, and whether they are well-formed
row-alike :
    (cs : List Column) → quoteless_columns cs ≡ true → {vs ts : List (List ℕ)} → Alikes vs ts →
    (cells cs vs ≡ cells cs ts) × (well_formed cs vs ≡ well_formed cs ts)
unfolding cells well_formed
row-alike [] h a = (refl, refl)
row-alike (c ∷ cs) h no_field = (refl, refl)
row-alike (c ∷ cs) h (field v a) =
    let column = column-quoteless c cs h in
    let cell = value-alike c column.minimum column.maximum v in
    let more = row-alike cs (columns-quoteless c cs h) a in
    (rw (cell, more.0), rw (cell, more.1))

names-alike :
    (cs : List Column) → quoteless_columns cs ≡ true → {vs ts : List (List ℕ)} → Alikes vs ts →
    same_fields vs (map (λ (c : Column). c.name) cs) ≡ same_fields ts (map (λ (c : Column). c.name) cs)
unfolding same_fields
names-alike [] h no_field = refl
names-alike [] h (field v a) = refl
names-alike (c ∷ cs) h no_field = refl
names-alike (c ∷ cs) h (field v a) =
    rw (same_alike c.name (column-quoteless c cs h).name v, names-alike cs (columns-quoteless c cs h) a)

module _ (f : File) where
  module _ {vs ts : List (List ℕ)} (a : Alikes vs ts) where
    pub cells-alike : cells (table f).columns vs ≡ cells (table f).columns ts
    cells-alike = (row-alike (table f).columns (table-quoteless f) a).0

    pub well_formed-alike : well_formed (table f).columns vs ≡ well_formed (table f).columns ts
    well_formed-alike = (row-alike (table f).columns (table-quoteless f) a).1

    pub header-alike : same_fields vs (header f) ≡ same_fields ts (header f)
    unfolding header
    header-alike = names-alike (table f).columns (table-quoteless f) a

  pub rows_alike :
      {rs ts : List (List (List ℕ))} → AlikeRecords rs ts →
      map (cells (table f).columns) rs ≡ map (cells (table f).columns) ts
  rows_alike no_record = refl
  rows_alike (record_of a more) = rw (cells-alike a, rows_alike more)

  pub leading-alike :
      {rs ts : List (List (List ℕ))} → AlikeRecords rs ts →
      leading (well_formed (table f).columns) rs ≡ leading (well_formed (table f).columns) ts
  unfolding leading
  leading-alike no_record = refl
  leading-alike (record_of a more) = rw (well_formed-alike a, leading-alike more)
