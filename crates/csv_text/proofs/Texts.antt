-- What the code reads of a file by slices (`texts`, `passed`, `record_texts`), beside the file's records by RFC 4180: field
-- by field alike, and what is left unread is what follows in the file. Assumes nothing.
use Prim.Native.Nat.{ℕ, suc, ◌<◌}
use mathlib.Core.Path.{◌≡◌, refl, sym}
use mathlib.Core.Bool.{Bool, true, false, cond}
use mathlib.Core.List.{List, [], ◌∷◌}
use native.Mathlib.Omega.{arith}
use lib.Dec.{eqb}
use lib.ListN.{length}
use borrow.Author.Tests.{eq-eqb, eqb-true}
use Rattle.csv_text.specs.Grammar.{File}
use Rattle.csv_text.specs.promises.Fields.{texts, passed, record_texts}
use Rattle.csv_text.specs.promises.Scan.{fitting}
use Rattle.base.specs.promises.Counting.{leading}
use Rattle.csv_text.proofs.Walk.{Alike, Within, over, still, Left, some, file-first, within-next}

-- a record's fields beside their texts
pub data Alikes : List (List ℕ) → List (List ℕ) → Type 0 where
  no_field : Alikes [] []
  field : {v w : List ℕ} {vs ws : List (List ℕ)} → Alike v w → Alikes vs ws → Alikes (v ∷ vs) (w ∷ ws)

-- records beside the texts of their fields
pub data AlikeRecords : List (List (List ℕ)) → List (List (List ℕ)) → Type 0 where
  no_record : AlikeRecords [] []
  record_of :
      {vs ws : List (List ℕ)} {rs ts : List (List (List ℕ))} →
      Alikes vs ws → AlikeRecords rs ts → AlikeRecords (vs ∷ rs) (ws ∷ ts)

-- all records have n fields
pub data AllFit (n : ℕ) : List (List (List ℕ)) → Type 0 where
  all : AllFit n []
  fits : {r : List (List ℕ)} {rs : List (List (List ℕ))} → length r ≡ n → AllFit n rs → AllFit n (r ∷ rs)

-- the fields that are left of a record
pub within-texts :
    {vs : List (List ℕ)} {s t : List ℕ} →
    Within s vs t → Alikes vs (texts (length vs) s) × (passed (length vs) s ≡ t)
unfolding texts passed
within-texts {vs = []} {s = s} {t = t} (still {r = r} n _) = elim n [ ]
within-texts {vs = []} over = (no_field, refl)
within-texts {vs = v ∷ vs} w =
    let x = within-next w in
    let more = within-texts {vs = vs} x.on in
    (field x.alike more.0, more.1)

-- a file's first record
pub first-record :
    {s : List ℕ} {v : List (List ℕ)} {rs : List (List (List ℕ))} (n : ℕ) →
    length v ≡ n → File s (v ∷ rs) → Alikes v (texts n s) × Left (passed n s) rs
first-record n e f =
    let (t, w, left) = file-first f in
    let x = rw e at (within-texts w) in
    (x.0, rw x.1 left)

-- the records that are left of a file
pub left-records :
    (n : ℕ) {s : List ℕ} {rs : List (List (List ℕ))} →
    AllFit n rs → Left s rs → AlikeRecords rs (record_texts n (length rs) s)
unfolding record_texts
left-records n all l = no_record
left-records n {s = s} (fits e more) (some f) =
    let x = first-record n e f in
    record_of x.0 (left-records n {s = passed n s} more x.1)

-- What the scan counts: the records that fit, up to the first that doesn't.
module _ (n : ℕ) where
  pub fitting-first : (r : List (List ℕ)) (rs : List (List (List ℕ))) → 0 < fitting n (r ∷ rs) → length r ≡ n
  unfolding fitting leading
  fitting-first r rs h = go (eqb n (length r)) refl h
    where
      go : (t : Bool) → eqb n (length r) ≡ t → 0 < cond t (suc (fitting n rs)) 0 → length r ≡ n
      go true e h = sym (eqb-true n (length r) e)
      go false e h = absurd (omega arith)

  pub fitting-all : (rs : List (List (List ℕ))) → fitting n rs ≡ length rs → AllFit n rs
  unfolding fitting leading
  fitting-all [] e = all
  fitting-all (r ∷ rs) e =
      let here : length r ≡ n = fitting-first r rs (omega arith) in
      let more : suc (fitting n rs) ≡ suc (length rs) = simp (eq-eqb n (length r) (sym here)) at e in
      fits here (fitting-all rs (omega arith))

  pub fitting-tail :
      (r : List (List ℕ)) (rs : List (List (List ℕ))) → fitting n (r ∷ rs) ≡ length (r ∷ rs) → AllFit n rs
  fitting-tail r rs e = tail (fitting-all (r ∷ rs) e)
    where
      tail : AllFit n (r ∷ rs) → AllFit n rs
      tail (fits h more) = more
