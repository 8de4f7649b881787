-- That the scan's tally finds what `scanned` says of the file's records. Assumes nothing.
use Prim.Native.Nat.{ℕ, suc, ◌+◌, ◌≤◌, max}
use mathlib.Core.Path.{◌≡◌, refl, sym, ◌∙◌, ap, ap₂}
use mathlib.Core.Logic.{⊎_elim}
use mathlib.Core.Bool.{Bool, true, false, cond, ◌&&◌}
use mathlib.Core.List.{List, [], ◌∷◌, map}
use native.Mathlib.Omega.{arith}
use lib.Dec.{eqb}
use lib.ListN.{length, length-map}
use borrow.Author.Tests.{eqb-true, ne_eqb}
use Rattle.base.proofs.Searches.{joined, joined-none, joined-more, one-le}
use Rattle.base.proofs.Tests.{either, false-true}
use Rattle.base.specs.promises.Counting.{one}
use Rattle.csv_text.specs.Records.{State, begin, plain, quoted, closing, ended, broken, next, regular, final, textdata, Rest, byte, comma, crlf, grown, rest, rfc4180, records}
use Rattle.csv_text.proofs.Steps.{broken-refuses}
use Rattle.csv_text.specs.promises.Scan.{Tally, start, over, inside_field, separates, at_end, step, tally, finished, scan_answer, fitting, found_regular, scanned}
use Rattle.csv_text.specs.Bytes.{COMMA, DQUOTE, LF}

-- the field counts of the records from a tally on
counts : ℕ → Rest → List ℕ
counts begun r = (begun + length r.fields) ∷ map length r.records

-- what a tally finds in the bytes s by their end
pub record Finds (width : ℕ) (t : Tally) (cs : List ℕ) (end : Tally) : Type 0 where
  pub records : end.records ≡ t.records + length cs
  pub fitting : end.fitting ≡ joined (eqb width) t.fitting t.records cs

-- what holds of every tally on the way
pub record Sound (t : Tally) : Type 0 where
  pub begun : at_end t.state ≡ true → 1 ≤ t.fields
  pub less : t.fitting ≤ t.records

-- g is r with n more fields in its first record
record Adds (n : ℕ) (r g : Rest) : Type 0 where
  fields : length g.fields ≡ n + length r.fields
  records : g.records ≡ r.records

-- a byte that ends no record adds a field where it separates, and no record
module _ (b : ℕ) (s : List ℕ) (r : Rest) where
  separated : (x y : Bool) → Adds (one x) r (cond x (comma r) (cond y (byte b r) r))
  separated true y = record { fields = omega arith; records = refl }
  separated false true = record { fields = omega arith; records = refl }
  separated false false = record { fields = omega arith; records = refl }

  enclosed : (x : Bool) → Adds 0 r (cond x r (byte b r))
  enclosed true = record { fields = omega arith; records = refl }
  enclosed false = record { fields = omega arith; records = refl }

  closed : (x : Bool) → eqb b DQUOTE ≡ x → Adds (one (eqb b COMMA)) r (cond x (byte b r) (cond (eqb b COMMA) (comma r) r))
  closed true e = rw (eqb-true b DQUOTE e) (record { fields = omega arith; records = refl })
  closed false e = separated (eqb b COMMA) false

  adds : (q : State) → at_end q ≡ false → Adds (one (separates q b)) r (grown q b s r)
  unfolding grown
  adds begin e = separated (eqb b COMMA) (textdata b)
  adds plain e = separated (eqb b COMMA) (textdata b)
  adds quoted e = enclosed (eqb b DQUOTE)
  adds closing e = closed (eqb b DQUOTE) refl
  adds ended e = false-true (sym e)
  adds broken e = record { fields = omega arith; records = refl }

-- behind a CR only a LF goes on
begins : (b : ℕ) (s : List ℕ) → regular (next ended b) s ≡ true → next ended b ≡ begin
unfolding next
begins b s e = go (eqb b LF) e
  where
    go : (x : Bool) → regular (cond x begin broken) s ≡ true → cond x begin broken ≡ begin
    go true e = refl
    go false e = false-true (sym (broken-refuses s) ∙ e)

not-nil : {A : Type 0} {b : ℕ} {s : List ℕ} → ◌≡◌ {A = List ℕ} (b ∷ s) [] → A
not-nil e = let z : ◌≡◌ {A = ℕ} 0 1 = cc in absurd (omega arith)

-- the LF behind a record's CR
record RecordEnded (q : State) (b : ℕ) (s : List ℕ) : Type 0 where
  goes : next q b ≡ begin
  gives : rest q (b ∷ s) ≡ crlf s (rest begin s)
  is : regular begin s ≡ true

record-ended : (q : State) (b : ℕ) (s : List ℕ) → at_end q ≡ true → regular q (b ∷ s) ≡ true → RecordEnded q b s
unfolding regular rest grown
record-ended begin b s q e = false-true q
record-ended plain b s q e = false-true q
record-ended quoted b s q e = false-true q
record-ended closing b s q e = false-true q
record-ended ended b s q e =
    let z = begins b s e in
    record { goes = z; gives = rw z; is = rw z at e }
record-ended broken b s q e = false-true q

module _ (width : ℕ) where
  -- the record begun ends first
  finds-over :
      {cs : List ℕ} {end : Tally} (q : State) (t : Tally) → Sound t → Finds width (over width q t) cs end →
      Finds width t (t.fields ∷ cs) end
  unfolding over
  finds-over {cs} {end} q t h f =
      record {
        records = omega (arith, f.records);
        fitting = f.fitting ∙ joined-more (eqb width) t.fitting t.records t.fields cs h.less;
      }

  finds-none : (t : Tally) → Finds width t [] t
  finds-none t = record { records = omega arith; fitting = sym (joined-none (eqb width) t.fitting t.records) }

  sound-within : (b : ℕ) (t : Tally) → Sound t → Sound (inside_field b t)
  unfolding inside_field
  sound-within b t h = record { begun = λ e. omega arith; less = h.less }

  sound-over : (t : Tally) → Sound t → Sound (over width begin t)
  unfolding over
  sound-over t h =
      record { begun = λ e. false-true e; less = omega (arith, h.less, one-le (eqb t.fitting t.records && eqb width t.fields)) }

  -- all records from a tally on, of which one is begun or begins with the next byte
  Found : List ℕ → Tally → Type 0
  Found s t =
      Sound t → (s ≡ [] → 1 ≤ t.fields) → regular t.state s ≡ true →
      Finds width t (counts (max t.fields 1) (rest t.state s)) (finished width (tally width t s))

  found-end : (t : Tally) → Found [] t
  unfolding Found tally finished rest counts
  found-end t h o e =
      rw (ne_eqb t.fields 0 (omega (arith, o refl)), begun)
      (finds-over t.state t h (finds-none (over width t.state t)))
    where
      begun : max t.fields 1 + 0 ≡ t.fields
      begun = omega (arith, o refl)

  counts-within :
      (b : ℕ) (s : List ℕ) (t : Tally) (r : Rest) → at_end t.state ≡ false →
      counts (max (inside_field b t).fields 1) r ≡ counts (max t.fields 1) (grown t.state b s r)
  unfolding counts inside_field
  counts-within b s t r q =
      let a = adds b s r t.state q in
      let first :
      max (max t.fields 1 + one (separates t.state b)) 1 + length r.fields
      ≡ max t.fields 1 + length (grown t.state b s r).fields =
      omega (arith, a.fields)
      in
      rw (first, a.records)

  found_within : (b : ℕ) (s : List ℕ) (t : Tally) → at_end t.state ≡ false → Found s (inside_field b t) → Found (b ∷ s) t
  unfolding Found tally step rest regular
  found_within b s t q ih h o e =
      let f =
      ih (sound-within b t h) (λ _. unfold inside_field in omega arith) (unfold inside_field in e)
      in
      rw (q, ← counts-within b s t (rest (next t.state b) s) q)
      (record { records = unfold inside_field in f.records; fitting = unfold inside_field in f.fitting })

  counts-over :
      (s : List ℕ) (c : ℕ) (t : Tally) → 1 ≤ t.fields →
      counts (max t.fields 1) (crlf (c ∷ s) (rest begin (c ∷ s)))
      ≡ t.fields ∷ counts (max (over width begin t).fields 1) (rest begin (c ∷ s))
  unfolding over counts
  counts-over s c t h =
      let r = rest begin (c ∷ s) in
      let begun : max t.fields 1 + 0 ≡ t.fields = omega arith in
      let more : suc (length r.fields) ≡ max 0 1 + length r.fields = omega arith in
      rw (begun, more)

  found-over : (b : ℕ) (s : List ℕ) (t : Tally) → at_end t.state ≡ true → Found s (over width begin t) → Found (b ∷ s) t
  unfolding Found tally step
  found-over b s t q ih h o e =
      let z = record-ended t.state b s q e in
      rw (q, z.goes, z.gives) (go s ih z.is)
    where
      begun : max t.fields 1 + 0 ≡ t.fields
      begun = omega (arith, h.begun q)

      go :
          (s : List ℕ) → Found s (over width begin t) → regular begin s ≡ true →
          Finds width t (counts (max t.fields 1) (crlf s (rest begin s))) (finished width (tally width (over width begin t) s))
      go [] ih e = unfold counts finished over in rw begun (finds-over begin t h (finds-none (over width begin t)))
      go (c ∷ s) ih e =
          unfold over in
          rw (counts-over s c t (h.begun q)) (finds-over begin t h (ih (sound-over t h) (λ z. not-nil z) e))

  found : (s : List ℕ) (t : Tally) → Found s t
  found [] t = found-end t
  found (b ∷ s) t =
      ⊎_elim (λ q. found-over b s t q (found s (over width begin t))) (λ q. found_within b s t q (found s (inside_field b t)))
      (either (at_end t.state))

  state-step : (b : ℕ) (t : Tally) → (step width t b).state ≡ next t.state b
  unfolding step over inside_field
  state-step b t = go (at_end t.state)
    where
      go : (x : Bool) → (cond x (over width (next t.state b) t) (inside_field b t)).state ≡ next t.state b
      go true = refl
      go false = refl

  state-tally : (s : List ℕ) (t : Tally) → final (tally width t s).state ≡ regular t.state s
  unfolding tally regular
  state-tally [] t = refl
  state-tally (b ∷ s) t = state-tally s (step width t b) ∙ rw (state-step b t)

  state-finished : (t : Tally) → (finished width t).state ≡ t.state
  unfolding finished over
  state-finished t = go (eqb t.fields 0)
    where
      go : (x : Bool) → (cond x t (over width t.state t)).state ≡ t.state
      go true = refl
      go false = refl

  sound-start : Sound start
  unfolding start
  sound-start = record { begun = λ e. omega arith; less = omega arith }

  found-file : (s : List ℕ) → regular begin s ≡ true → Finds width start (map length (records s)) (finished width (tally width start s))
  unfolding start records counts Found
  found-file s e =
      let r = rest begin s in
      let f = found s start sound-start (λ z. omega arith) e in
      let one_more : suc (length r.fields) ≡ max 1 1 + length r.fields = omega arith in
      rw one_more f

  -- the tally's answer is what the definition says of the file
  pub tally-scans : (s : List ℕ) → scanned width s ≡ scan_answer (finished width (tally width start s))
  unfolding scanned rfc4180 scan_answer
  tally-scans s =
      let t = finished width (tally width start s) in
      let q : final t.state ≡ regular begin s =
      ap final (state-finished (tally width start s)) ∙ (unfold start in state-tally s start)
      in
      ⊎_elim (λ (e : regular begin s ≡ true). simp (q, e, ends (found-file s e))) (λ (e : regular begin s ≡ false). simp (q, e))
      (either (regular begin s))
    where
      ends :
          Finds width start (map length (records s)) (finished width (tally width start s)) →
          found_regular (length (records s)) (fitting width (records s))
          ≡ found_regular (finished width (tally width start s)).records (finished width (tally width start s)).fitting
      ends f =
          unfold start joined fitting in
          ap₂ found_regular
          (omega (arith, length-map (records s) length, f.records))
          (omega (arith, f.fitting))
