-- Laws of comparing fields, over plain lists. Assumes nothing.
use Prim.Native.Nat.{ℕ, ◌+◌, ◌-◌, ◌≤◌, ◌<◌}
use mathlib.Core.Path.{◌≡◌, refl, sym, ◌∙◌, ap}
use mathlib.Core.Bool.{Bool, true, false, ◌&&◌, and_assoc, and-true}
use mathlib.Core.List.{List}
use native.Mathlib.Omega.{arith}
use lib.ListN.{length, take, drop, length-drop}
use lib.Seq.{drop-drop}
use Rattle.base.specs.Text.{same}
use Rattle.base.proofs.Lists.{drop-back, rest-lent}
use Rattle.csv_text.specs.promises.Fields.{extent, inner, unread, texts, passed}
use Rattle.tables.specs.Reading.{same_fields}
use Rattle.tables.specs.promises.Laying.{FieldsCompared, HeaderRead}
use Rattle.tables.specs.Table.{header, joined, header_text, width, constraint_columns, supply_columns, schedules_columns, curves_columns, parents_columns}
use Rattle.tables.proofs.RowLaws.{texts-next, passed-next}
use Rattle.tables.specs.declared.files.File.{File}
use Rattle.tables.specs.declared.files.File.TheVariants.{Constraint, Supply, Schedules, Curves, Parents}
use Rattle.tables.specs.declared.headers.Header.{Header}

-- k of n fields are compared
pub record Comparing (n : ℕ) (s t rest left : List ℕ) (alike : Bool) (k : ℕ) : Type 0 where
  pub upto : k ≤ n
  pub at : ℕ
  pub suffix : rest ≡ drop at s
  pub shorter : length rest ≤ length s
  pub passes : passed n s ≡ passed (n - k) rest
  pub compared : same_fields (texts n s) (texts n t) ≡ (alike && same_fields (texts (n - k) rest) (texts (n - k) left))

pub comparing-none : (n : ℕ) (s t : List ℕ) → Comparing n s t s t true 0
comparing-none n s t =
    record {
      upto = omega arith;
      at = 0;
      suffix = refl;
      shorter = omega arith;
      passes = rw whole;
      compared = rw whole;
    }
  where
    whole : n - 0 ≡ n
    whole = omega arith

abbrev pub first_text : List ℕ → List ℕ
first_text s = inner (take (extent false s) s)

pub comparing-next :
    (n : ℕ) (s t rest left : List ℕ) (alike : Bool) (k next further : ℕ) →
    Comparing n s t rest left alike k → k < n → drop next rest ≡ unread rest (extent false rest) →
    drop further left ≡ unread left (extent false left) →
    Comparing n s t (take (length rest - next) (drop next rest)) (take (length left - further) (drop further left))
    (alike && same (first_text rest) (first_text left)) (k + 1)
comparing-next n s t rest left alike k next further c h p q =
    rw (rest-lent next rest, rest-lent further left)
    (record {
      upto = omega arith;
      at = c.at + next;
      suffix = rw c.suffix (drop-drop next c.at s);
      shorter = omega (arith, c.shorter, length-drop next rest);
      passes = c.passes ∙ passed-next n k h rest ∙ rw p;
      compared =
          c.compared
          ∙ (unfold same_fields in rw (texts-next n k h rest, texts-next n k h left, ← p, ← q)
          (sym (and_assoc alike (same (first_text rest) (first_text left)) _)));
    })

pub comparing-over :
    (n : ℕ) (s t rest left : List ℕ) (alike : Bool) (k : ℕ) → Comparing n s t rest left alike k → n ≤ k →
    FieldsCompared n s t (record { same = alike; next = length s - length rest })
unfolding texts passed same_fields
comparing-over n s t rest left alike k c h =
    record {
      same = sym (c.compared ∙ rw none_left (and-true alike));
      within = omega arith;
      next = rw (c.suffix, c.passes, none_left, c.suffix) (drop-back c.at s);
    }
  where
    none_left : n - k ≡ 0
    none_left = omega arith

-- the texts of two fields, by their lengths
pub texts-same :
    (s t v w : List ℕ) (n m : ℕ) {r : Bool} → n ≡ extent false s → m ≡ extent false t → v ≡ inner (take (n - 0) s) →
    w ≡ inner (take (m - 0) t) → r ≡ same v w → r ≡ same (first_text s) (first_text t)
texts-same s t v w n m p q a b e =
    let p' : n - 0 ≡ extent false s = omega arith in
    let q' : m - 0 ≡ extent false t = omega arith in
    e ∙ rw (a, b, p', q')

header-texts : (f : File) → texts (width f) (header_text f) ≡ header f
unfolding texts extent inner unread header joined header_text width constraint_columns supply_columns schedules_columns curves_columns parents_columns
header-texts Constraint = refl
header-texts Supply = refl
header-texts Schedules = refl
header-texts Curves = refl
header-texts Parents = refl

pub header_read :
    {s t : List ℕ} {k : ℕ} {r : Header} (f : File) → k ≡ width f → t ≡ header_text f → FieldsCompared k s t r → HeaderRead f s r
header_read {s} f wide e c =
    let d = rw (wide, e) at c in
    record {
      same = d.same ∙ ap (same_fields (texts (width f) s)) (header-texts f);
      within = d.within;
      next = d.next;
    }
