-- A cell and its field are one another's: a permitted cell is what its field is read as, a field is what its cell is shown as, and
-- no byte of it needs quotes. By columns, and by rows. Assumes nothing.
use Rattle.std.specs.Prelude.{None, Option, Some, option_map, unwrap_or}
use Prim.Native.Nat.{ℕ, ◌+◌, ◌-◌, ◌≤◌}
use mathlib.Core.Path.{◌≡◌, refl, sym, ◌∙◌, ap, ap₂}
use mathlib.Core.Logic.{◌⊎◌, inl, inr}
use mathlib.Core.Bool.{Bool, true, false, cond, ◌&&◌, not}
use mathlib.Core.List.{List, [], ◌∷◌, Memᴰ}
use native.Mathlib.Omega.{arith}
use lib.Dec.{eqb, ltb}
use lib.ListN.{length}
use borrow.Author.Tests.{eqb-true, ne_eqb, le-leb, lt-ltb, le-ltb, ltb-true, ltb-false}
use Rattle.base.specs.Search.{first, All, all_more}
use Rattle.base.specs.Text.{same}
use Rattle.base.proofs.Searches.{first-none-all}
use Rattle.base.proofs.Tests.{and-fst, and-snd, false-true, same_refl, same-eq}
use Rattle.csv_text.specs.Grammar.{above-comma}
use Rattle.csv_text.specs.Records.{textdata}
use Rattle.csv_text.specs.promises.Plain.{all_text, all_texts}
use Rattle.csv_text.proofs.Steps.{textdata-true}
use Rattle.numeral.specs.Grammar.{Digit}
use Rattle.numeral.specs.Numeral.{number, within, digits}
use Rattle.numeral.proofs.Laws.{number_digits, digits_number, digits-digit, within-some}
use Rattle.tables.specs.Table.{Column, table, header, constraint_columns, supply_columns, schedules_columns, curves_columns, parents_columns}
use Rattle.tables.specs.declared.columns.Form.{Form}
use Rattle.tables.specs.declared.columns.Form.TheVariants.{Numeral as numeral, Signed as signed, Letter as letter}
use Rattle.tables.specs.Values.{MINUS, excess, one_of, in_form, value, is_some, cells, well_formed}
use Rattle.tables.specs.declared.files.File.{File}
use Rattle.tables.specs.declared.files.File.TheVariants.{Constraint, Supply, Schedules, Curves, Parents}
use Rattle.tables.specs.promises.Ranges.{Permits, PermittedCells, none as no_cell, more as one_Cell}
use Rattle.tables.specs.promises.RowCells.{CellsOf}
use Rattle.tables.proofs.Permitted.{row-permitted}
use Rattle.tidy.specs.Tidy.{shown_as, shown, shown_row}

-- What a shown cell is read as.

numeral-value : (least most x : ℕ) → least ≤ x → x ≤ most → within least most (number (digits x)) ≡ Some x
unfolding within
numeral-value least most x l h = rw (number_digits x) (simp (le-leb least x l, le-leb x most h))

-- no numeral begins with a minus
plain-excess : (lo hi n : ℕ) → excess lo hi (digits n) ≡ option_map (λ (m : ℕ). lo + m) (within 0 hi (number (digits n)))
unfolding excess number within
plain-excess lo hi n = go (digits n) (λ b i. digits-digit n i)
  where
    go :
        (s : List ℕ) → ((b : ℕ) → Memᴰ b s → Digit b) →
        excess lo hi s ≡ option_map (λ (m : ℕ). lo + m) (within 0 hi (number s))
    go [] d = refl
    go (b ∷ s) d = rw (ne_eqb b MINUS (λ e. omega (arith, (d b (Memᴰ.head refl)).least)))

signed-value : (lo hi x : ℕ) → x ≤ lo + hi → excess lo hi (shown_as signed lo x) ≡ Some x
unfolding shown_as excess
signed-value lo hi x h = go (ltb x lo) refl
  where
    go : (t : Bool) → ltb x lo ≡ t → excess lo hi (cond t (MINUS ∷ digits (lo - x)) (digits (x - lo))) ≡ Some x
    go true e =
        let below = ltb-true x lo e in
        rw (numeral-value 1 lo (lo - x) (omega arith) (omega arith)) (ap Some (omega arith))
    go false e =
        let above = ltb-false x lo e in
        plain-excess lo hi (x - lo) ∙ rw (numeral-value 0 hi (x - lo) (omega arith) (omega arith)) (ap Some (omega arith))

letter-value : (a b x : ℕ) → (x ≡ a) ⊎ (x ≡ b) → one_of a b (x ∷ []) ≡ Some x
unfolding one_of
letter-value a b x (inl e) = rw e (simp (same_refl (a ∷ [])))
letter-value a b x (inr e) = rw e (go (same (b ∷ []) (a ∷ [])) refl)
  where
    go : (t : Bool) → same (b ∷ []) (a ∷ []) ≡ t → cond t (Some a) (cond (same (b ∷ []) (b ∷ [])) (Some b) None) ≡ Some b
    go true f = let alike = same-eq (b ∷ []) (a ∷ []) f in cc
    go false f = simp (same_refl (b ∷ []))

form-value : (f : Form) (lo hi x : ℕ) → Permits f lo hi x → in_form f lo hi (shown_as f lo x) ≡ Some x
unfolding in_form shown_as
form-value numeral lo hi x p = numeral-value lo hi x p.0 p.1
form-value signed lo hi x p = signed-value lo hi x p
form-value letter lo hi x p = letter-value lo hi x p

pub shown-value : (c : Column) (x : ℕ) → Permits c.form c.minimum c.maximum x → value c (shown c x) ≡ Some x
unfolding value shown
shown-value c x p = form-value c.form c.minimum c.maximum x p

-- What a read field is shown as.

signed-shown : (lo hi x : ℕ) (v : List ℕ) → excess lo hi v ≡ Some x → shown_as signed lo x ≡ v
unfolding shown_as excess
signed-shown lo hi x [] e = let z : ◌≡◌ {A = ℕ} 0 1 = cc in absurd (omega arith)
signed-shown lo hi x (b ∷ s) e =
    go (eqb b MINUS) refl (within 1 lo (number s)) refl (within 0 hi (number (b ∷ s))) refl e
  where
    go :
        (t : Bool) → eqb b MINUS ≡ t → (o : Option ℕ) → within 1 lo (number s) ≡ o →
        (p : Option ℕ) → within 0 hi (number (b ∷ s)) ≡ p →
        cond t (option_map (λ (n : ℕ). lo - n) o) (option_map (λ (n : ℕ). lo + n) p) ≡ Some x →
        cond (ltb x lo) (MINUS ∷ digits (lo - x)) (digits (x - lo)) ≡ b ∷ s
    go true f None g p q e = let z : ◌≡◌ {A = ℕ} 0 1 = cc in absurd (omega arith)
    go true f (Some n) g p q e =
        let (read, least, most) = within-some 1 lo n (number s) g in
        let cell : lo - n ≡ x = cc in
        let back : lo - x ≡ n = omega arith in
        rw (lt-ltb x lo (omega arith), back) (ap₂ ◌∷◌ (sym (eqb-true b MINUS f)) (sym (digits_number s n read)))
    go false f o g None q e = let z : ◌≡◌ {A = ℕ} 0 1 = cc in absurd (omega arith)
    go false f o g (Some n) q e =
        let (read, least, most) = within-some 0 hi n (number (b ∷ s)) q in
        let cell : lo + n ≡ x = cc in
        let back : x - lo ≡ n = omega arith in
        rw (le-ltb x lo (omega arith), back) (sym (digits_number (b ∷ s) n read))

letter-shown : (a b x : ℕ) (v : List ℕ) → one_of a b v ≡ Some x → x ∷ [] ≡ v
unfolding one_of
letter-shown a b x v e = go (same v (a ∷ [])) refl (same v (b ∷ [])) refl e
  where
    go :
        (t : Bool) → same v (a ∷ []) ≡ t → (u : Bool) → same v (b ∷ []) ≡ u →
        cond t (Some a) (cond u (Some b) None) ≡ Some x → x ∷ [] ≡ v
    go true f u g e = let alike = same-eq v (a ∷ []) f in cc
    go false f true g e = let alike = same-eq v (b ∷ []) g in cc
    go false f false g e = let z : ◌≡◌ {A = ℕ} 0 1 = cc in absurd (omega arith)

form-shown : (f : Form) (lo hi x : ℕ) (v : List ℕ) → in_form f lo hi v ≡ Some x → shown_as f lo x ≡ v
unfolding in_form shown_as
form-shown numeral lo hi x v e = sym (digits_number v x (within-some lo hi x (number v) e).0)
form-shown signed lo hi x v e = signed-shown lo hi x v e
form-shown letter lo hi x v e = letter-shown lo hi x v e

pub value-shown : (c : Column) (v : List ℕ) (x : ℕ) → value c v ≡ Some x → shown c x ≡ v
unfolding value shown
value-shown c v x e = form-shown c.form c.minimum c.maximum x v e

-- The same of rows.

pub shown-cells : {cs : List Column} {xs : List ℕ} → PermittedCells cs xs → CellsOf cs (shown_row cs xs) xs
unfolding shown_row
shown-cells no_cell = CellsOf.none
shown-cells (one_Cell {c = c} {x = x} p ps) = CellsOf.more (shown-value c x p) (shown-cells ps)

field-shown : (c : Column) (v : List ℕ) → is_some (value c v) ≡ true → shown c (unwrap_or (value c v) 0) ≡ v
unfolding is_some
field-shown c v e = go (value c v) refl e
  where
    go : (o : Option ℕ) → value c v ≡ o → is_some o ≡ true → shown c (unwrap_or o 0) ≡ v
    go None q e = false-true e
    go (Some x) q e = value-shown c v x q

-- of a well-formed row of as many fields as columns
pub cells-shown :
    (cs : List Column) (vs : List (List ℕ)) → length vs ≡ length cs → well_formed cs vs ≡ true → shown_row cs (cells cs vs) ≡ vs
unfolding cells well_formed shown_row
cells-shown [] [] n e = refl
cells-shown [] (v ∷ vs) n e = absurd (omega arith)
cells-shown (c ∷ cs) [] n e = absurd (omega arith)
cells-shown (c ∷ cs) (v ∷ vs) n e =
    ap₂ ◌∷◌ (field-shown c v (and-fst (is_some (value c v)) (well_formed cs vs) e))
    (cells-shown cs vs (omega arith) (and-snd (is_some (value c v)) (well_formed cs vs) e))

-- Its bytes are TEXTDATA.

all_digits : (s : List ℕ) → ((b : ℕ) → Memᴰ b s → Digit b) → all_text s ≡ true
unfolding all_text
all_digits [] d = refl
all_digits (b ∷ s) d =
    let here = d b (Memᴰ.head refl) in
    let text : textdata b ≡ true = textdata-true {b = b} (above-comma (omega (arith, here.least)) (omega (arith, here.most))) in
    simp (text, all_digits s (λ c i. d c (Memᴰ.tail i)))

digits-text : (n : ℕ) → all_text (digits n) ≡ true
digits-text n = all_digits (digits n) (λ b i. digits-digit n i)

-- whether the letters of a column are TEXTDATA, if it has any
abbrev plain_as : Form → ℕ → ℕ → Bool
plain_as numeral lo hi = true
plain_as signed lo hi = true
plain_as letter lo hi = textdata lo && textdata hi

abbrev plain_letters : Column → Bool
plain_letters c = plain_as c.form c.minimum c.maximum

form-text : (f : Form) (lo hi x : ℕ) → plain_as f lo hi ≡ true → Permits f lo hi x → all_text (shown_as f lo x) ≡ true
unfolding shown_as all_text
form-text numeral lo hi x t p = digits-text x
form-text signed lo hi x t p = go (ltb x lo)
  where
    go : (t : Bool) → all_text (cond t (MINUS ∷ digits (lo - x)) (digits (x - lo))) ≡ true
    go true = digits-text (lo - x)
    go false = digits-text (x - lo)
form-text letter lo hi x t (inl e) = rw e (simp (and-fst (textdata lo) (textdata hi) t))
form-text letter lo hi x t (inr e) = rw e (simp (and-snd (textdata lo) (textdata hi) t))

row-text :
    {cs : List Column} {xs : List ℕ} → All (λ (c : Column). plain_letters c ≡ true) cs → PermittedCells cs xs →
    all_texts (shown_row cs xs) ≡ true
unfolding shown_row shown all_texts
row-text ts no_cell = refl
row-text (all_more t ts) (one_Cell {c = c} {x = x} p ps) =
    simp (form-text c.form c.minimum c.maximum x t p, row-text ts ps)

module _ (f : File) where
  plain-columns : All (λ (c : Column). plain_letters c ≡ true) (table f).columns
  unfolding first constraint_columns supply_columns schedules_columns curves_columns parents_columns
  plain-columns = first-none-all plain_letters 0 (table f).columns (found f)
    where
      found : (f : File) → first (λ (c : Column). not (plain_letters c)) 0 (table f).columns ≡ None
      found Constraint = refl
      found Supply = refl
      found Schedules = refl
      found Curves = refl
      found Parents = refl

  pub shown-text : {xs : List ℕ} → PermittedCells (table f).columns xs → all_texts (shown_row (table f).columns xs) ≡ true
  shown-text p = row-text plain-columns p

  pub values-text :
      (vs : List (List ℕ)) → length vs ≡ length (table f).columns → well_formed (table f).columns vs ≡ true → all_texts vs ≡ true
  values-text vs n e =
      sym (ap all_texts (cells-shown (table f).columns vs n e)) ∙ shown-text (row-permitted (table f).columns vs n e)

pub header-text : (f : File) → all_texts (header f) ≡ true
unfolding header all_texts all_text constraint_columns supply_columns schedules_columns curves_columns parents_columns
header-text Constraint = refl
header-text Supply = refl
header-text Schedules = refl
header-text Curves = refl
header-text Parents = refl
