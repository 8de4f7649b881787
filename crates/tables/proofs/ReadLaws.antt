-- Laws of reading a whole file: one for each way through the code. Assumes nothing.
use Rattle.std.specs.Prelude.{Err, None, Ok, Option, Some}
use Rattle.csv_text.specs.declared.scanning.Regular.{Regular}
use Prim.Native.Nat.{ℕ, suc, ◌+◌, ◌-◌, ◌*◌, ◌≤◌, ◌<◌}
use mathlib.Core.Path.{◌≡◌, refl, sym, ◌∙◌, ap}
use mathlib.Core.Logic.{⊎_elim}
use mathlib.Core.Bool.{Bool, true, false, cond}
use mathlib.Core.List.{List, [], ◌∷◌, ◌++◌, map}
use native.Mathlib.Omega.{arith}
use native.Mathlib.Nat.{mul-le-mul_right}
use lib.Dec.{eqb}
use lib.ListN.{length, take, drop, length-map}
use borrow.Author.Tests.{eq-eqb, ne_eqb, le-leb, lt-leb}
use Rattle.base.specs.Search.{first_of}
use Rattle.base.proofs.Lists.{rest-lent}
use Rattle.base.proofs.Searches.{first-leading, leading_le}
use Rattle.base.proofs.Tests.{either, and-snd, false-true}
use Rattle.base.specs.Text.{same}
use Rattle.base.specs.promises.Counting.{leading}
use Rattle.csv_text.specs.Records.{begin, rfc4180, records, rest}
use Rattle.csv_text.specs.promises.Fields.{texts, record_texts}
use Rattle.csv_text.specs.promises.Scan.{fitting, found_regular, scanned}
use Rattle.csv_text.proofs.Decides.{read-file}
use Rattle.csv_text.proofs.Texts.{fitting-first, fitting-tail, first-record, left-records, Alikes, AlikeRecords}
use Rattle.tables.specs.Table.{Column, table, header, width}
use Rattle.tables.specs.Values.{cells, well_formed}
use Rattle.tables.specs.Reading.{rows, same_fields, misfit, miscount, malformed, irregular, misshapen, refusal}
use Rattle.tables.specs.promises.Laying.{HeaderRead, RowsLaid, FileRead, Shaped, RowsCounted, room}
use Rattle.tables.proofs.AlikeValues.{header-alike, rows_alike, leading-alike}
use Rattle.tables.specs.declared.files.File.{File}
use Rattle.tables.specs.declared.files.Refusal.{Refusal}
use Rattle.tables.specs.declared.headers.Header.{Header}
use Rattle.tables.specs.Refusals.{refused}
use Rattle.tables.specs.promises.Answers.{reading, laid, all_cells}

module _ (f : File) (s : List ℕ) where
  -- the shape of a file, refusal by refusal
  shape-1 : rfc4180 s ≡ false → misshapen f s ≡ Some (refused 1 f 0)
  unfolding misshapen first_of irregular
  shape-1 e = simp e

  shape-2 : (p : ℕ) → rfc4180 s ≡ true → misfit f (records s) ≡ Some p → misshapen f s ≡ Some (refused 2 f p)
  unfolding misshapen first_of irregular
  shape-2 p e m = simp (e, m)

  shape-4 :
      rfc4180 s ≡ true → misfit f (records s) ≡ None → miscount f (length (rows s)) ≡ Some 0 →
      misshapen f s ≡ Some (refused 4 f 0)
  unfolding misshapen first_of irregular
  shape-4 e m k = simp (e, m, k)

  pub shape-right :
      rfc4180 s ≡ true → misfit f (records s) ≡ None → miscount f (length (rows s)) ≡ None → misshapen f s ≡ None
  unfolding misshapen first_of irregular
  shape-right e m k = simp (e, m, k)

  -- a misshapen file is refused, and the run is as it was
  misshapen-read : (r : Refusal) (old : List ℕ) → misshapen f s ≡ Some r → FileRead f s old old (Err r)
  unfolding reading refusal laid first_of
  misshapen-read r old e = record { answers = simp e; lays = simp e }

  -- a file in shape is refused with 3 at its first malformed row, or read; its cells are laid down
  malformed-read :
      (p : ℕ) (old new : List ℕ) → misshapen f s ≡ None → malformed f (rows s) ≡ Some p →
      new ≡ all_cells (table f).columns (rows s) ++ drop (length (all_cells (table f).columns (rows s))) old →
      FileRead f s old new (Err (refused 3 f p))
  unfolding reading refusal laid first_of
  malformed-read p old new e m n = record { answers = simp (e, m); lays = simp e n }

  pub rows-read :
      (old new : List ℕ) → misshapen f s ≡ None → malformed f (rows s) ≡ None →
      new ≡ all_cells (table f).columns (rows s) ++ drop (length (all_cells (table f).columns (rows s))) old →
      FileRead f s old new (Ok (length (rows s)))
  unfolding reading refusal laid first_of
  rows-read old new e m n = record { answers = simp (e, m); lays = simp e n }

same_count : (vs ws : List (List ℕ)) → same_fields vs ws ≡ true → length vs ≡ length ws
unfolding same_fields
same_count [] [] e = refl
same_count [] (w ∷ ws) e = false-true e
same_count (v ∷ vs) [] e = false-true e
same_count (v ∷ vs) (w ∷ ws) e = ap suc (same_count vs ws (and-snd (same v w) (same_fields vs ws) e))

header-count : (f : File) → length (header f) ≡ width f
unfolding header width
header-count f = length-map (table f).columns (λ (c : Column). c.name)

leading-map :
    {A B : Type 0} (p : B → Bool) (g : A → B) (xs : List A) → leading p (map g xs) ≡ leading (λ (x : A). p (g x)) xs
unfolding leading
leading-map p g [] = refl
leading-map p g (x ∷ xs) = ap (λ (n : ℕ). cond (p (g x)) (suc n) 0) (leading-map p g xs)

-- the records of a file by its header and rows
module _ (f : File) (h : List (List ℕ)) (rs : List (List (List ℕ))) where
  fits : List (List ℕ) → Bool
  fits vs = eqb (width f) (length vs)

  fitting-more : length h ≡ width f → fitting (width f) (h ∷ rs) ≡ suc (leading fits rs)
  unfolding fitting leading fits
  fitting-more e = rw (eq-eqb (width f) (length h) (sym e), leading-map (eqb (width f)) length rs)

  misfit-count : fitting (width f) (h ∷ rs) ≡ 0 → misfit f (h ∷ rs) ≡ Some 0
  unfolding misfit
  misfit-count z = ⊎_elim fit-after-all (λ (e : same_fields h (header f) ≡ false). simp e) (either (same_fields h (header f)))
    where
      fit-after-all : same_fields h (header f) ≡ true → misfit f (h ∷ rs) ≡ Some 0
      fit-after-all e = absurd (omega (arith, fitting-more (same_count h (header f) e ∙ header-count f)))

  misfit-header : same_fields h (header f) ≡ false → misfit f (h ∷ rs) ≡ Some 0
  unfolding misfit
  misfit-header e = simp e

  misfit-rows :
      same_fields h (header f) ≡ true →
      misfit f (h ∷ rs) ≡ cond (eqb (leading fits rs) (length rs)) None (Some (1 + leading fits rs))
  unfolding misfit fits
  misfit-rows e = simp e (first-leading fits 1 rs)

  misfit-row :
      same_fields h (header f) ≡ true → fitting (width f) (h ∷ rs) < length (h ∷ rs) →
      misfit f (h ∷ rs) ≡ Some (fitting (width f) (h ∷ rs))
  misfit-row e l =
      let more = fitting-more (same_count h (header f) e ∙ header-count f) in
      let same : 1 + leading fits rs ≡ fitting (width f) (h ∷ rs) = omega (arith, more) in
      misfit-rows e ∙ simp (ne_eqb (leading fits rs) (length rs) (omega (arith, more)), same)

  misfit-none :
      same_fields h (header f) ≡ true → length (h ∷ rs) ≤ fitting (width f) (h ∷ rs) → misfit f (h ∷ rs) ≡ None
  misfit-none e l =
      let more = fitting-more (same_count h (header f) e ∙ header-count f) in
      misfit-rows e ∙ simp (eq-eqb (leading fits rs) (length rs) (omega (arith, more, leading_le fits rs)))

all_fit : (w : ℕ) (rs : List (List (List ℕ))) → length rs ≤ fitting w rs → fitting w rs ≡ length rs
unfolding fitting
all_fit w rs l = omega (arith, leading_le (eqb w) (map length rs), length-map rs length)

joined_cells : List (List ℕ) → List ℕ
joined_cells [] = []
joined_cells (c ∷ cs) = c ++ joined_cells cs

cells-joined : (cs : List Column) (rs : List (List (List ℕ))) → all_cells cs rs ≡ joined_cells (map (cells cs) rs)
unfolding all_cells joined_cells
cells-joined cs [] = refl
cells-joined cs (r ∷ rs) = ap (λ (l : List ℕ). cells cs r ++ l) (cells-joined cs rs)

cells-of-rows :
    (cs : List Column) (rs ts : List (List (List ℕ))) → map (cells cs) rs ≡ map (cells cs) ts → all_cells cs rs ≡ all_cells cs ts
cells-of-rows cs rs ts e = cells-joined cs rs ∙ ap joined_cells e ∙ sym (cells-joined cs ts)

head_of : List ℕ → List (List ℕ)
head_of s = (rest begin s).field ∷ (rest begin s).fields

records-apart : (s : List ℕ) → records s ≡ head_of s ∷ rows s
unfolding records rows head_of
records-apart s = refl

module _ (f : File) (s : List ℕ) where
  scanned-by : Bool → Option Regular
  scanned-by b = cond b (found_regular (length (records s)) (fitting (width f) (records s))) None

  pub read-irregular :
      {w : ℕ} {q : Option Regular} (old : List ℕ) → w ≡ width f → q ≡ scanned w s → q ≡ None →
      FileRead f s old old (Err (refused 1 f 0))
  unfolding scanned scanned-by
  read-irregular old w p e =
      misshapen-read f s (refused 1 f 0) old (shape-1 f s (go (rfc4180 s) (sym (p ∙ ap (λ (w : ℕ). scanned w s) w) ∙ e)))
    where
      go : (b : Bool) → scanned-by b ≡ None → b ≡ false
      go true z = let o : ◌≡◌ {A = ℕ} 0 1 = cc in absurd (omega arith)
      go false z = refl

  pub scan-shaped :
      {w : ℕ} {q : Option Regular} {n m : ℕ} → w ≡ width f → q ≡ scanned w s → q ≡ found_regular n m → Shaped f s n m
  unfolding scanned scanned-by
  scan-shaped {n = n} {m = m} w p e = go (rfc4180 s) refl (sym e ∙ p ∙ ap (λ (w : ℕ). scanned w s) w)
    where
      go : (b : Bool) → rfc4180 s ≡ b → found_regular n m ≡ scanned-by b → Shaped f s n m
      go true r z =
          let same : ◌≡◌ {A = Regular} (record { records = n; fitting = m }) (record { records = length (records s); fitting = fitting (width f) (records s) }) = cc in
          record { regular = r; counted = ap (λ (k : Regular). k.records) same; fits = ap (λ (k : Regular). k.fitting) same }
      go false r z = let o : ◌≡◌ {A = ℕ} 0 1 = cc in absurd (omega arith)

  -- what is alike of a regular file whose header has its fields
  header-record : (n fit : ℕ) → Shaped f s n fit → (fit ≡ 0 → ⊥) → Alikes (head_of s) (texts (width f) s)
  header-record n fit h z =
      (first-record (width f) (fitting-first (width f) (head_of s) (rows s) (rw (← records-apart s) (omega (arith, h.fits))))
      (rw (records-apart s) at (read-file s h.regular))).0

  pub shaped-some : {n fit : ℕ} → Shaped f s n fit → 1 ≤ n
  shaped-some h = omega (arith, h.counted, ap length (records-apart s))

  module _ (n fit : ℕ) (h : Shaped f s n fit) (old : List ℕ) where
    pub read-none-fits : fit ≡ 0 → FileRead f s old old (Err (refused 2 f 0))
    read-none-fits z =
        misshapen-read f s (refused 2 f 0) old
        (shape-2 f s 0 h.regular
        (rw (records-apart s) (misfit-count f (head_of s) (rows s) (rw (← records-apart s) (sym h.fits ∙ z)))))

    module _ (z : fit ≡ 0 → ⊥) (r : Header) (k : HeaderRead f s r) where
      same-header : same_fields (head_of s) (header f) ≡ r.same
      same-header = header-alike f (header-record n fit h z) ∙ sym k.same

      pub read-other-header : r.same ≡ false → FileRead f s old old (Err (refused 2 f 0))
      read-other-header e =
          misshapen-read f s (refused 2 f 0) old
          (shape-2 f s 0 h.regular (rw (records-apart s) (misfit-header f (head_of s) (rows s) (same-header ∙ e))))

      pub read-other-count : r.same ≡ true → fit < n → FileRead f s old old (Err (refused 2 f fit))
      read-other-count e l =
          misshapen-read f s (refused 2 f fit) old
          (shape-2 f s fit h.regular
          (rw (h.fits, records-apart s)
          (misfit-row f (head_of s) (rows s) (same-header ∙ e) (rw (← records-apart s) (omega (arith, h.fits, h.counted, ap length (records-apart s)))))))

      pub shaped-counted : r.same ≡ true → n ≤ fit → RowsCounted f s r.next (n - 1)
      shaped-counted e l =
          record {
            regular = h.regular;
            fit =
                rw (records-apart s)
                (misfit-none f (head_of s) (rows s) (same-header ∙ e) (rw (← records-apart s) (omega (arith, h.fits, h.counted, ap length (records-apart s)))));
            fits = all_fit (width f) (records s) (omega (arith, h.fits, h.counted));
            within = k.within;
            starts = k.next;
            counted = omega (arith, h.counted, ap length (records-apart s));
          }

  module _ (start count : ℕ) (h : RowsCounted f s start count) where
    pub read-few : (old : List ℕ) → count < (table f).fewest_rows → FileRead f s old old (Err (refused 4 f 0))
    unfolding miscount
    read-few old l =
        misshapen-read f s (refused 4 f 0) old
        (shape-4 f s h.regular h.fit (simp (lt-leb (table f).fewest_rows (length (rows s)) (omega (arith, h.counted)))))

    pub read-many :
        (old : List ℕ) → (table f).fewest_rows ≤ count → (table f).most_rows < count →
        FileRead f s old old (Err (refused 4 f 0))
    unfolding miscount
    read-many old k l =
        misshapen-read f s (refused 4 f 0) old
        (shape-4 f s h.regular h.fit
        (simp (
          le-leb (table f).fewest_rows (length (rows s)) (omega (arith, h.counted)),
          lt-leb (length (rows s)) (table f).most_rows (omega (arith, h.counted)),
        )))

    module _ (k : (table f).fewest_rows ≤ count) (l : count ≤ (table f).most_rows) where
      pub room-enough : (n : ℕ) → room f ≤ n → count * width f ≤ n
      unfolding room
      room-enough n r = omega (arith, mul-le-mul_right (width f) l)

      in-shape : misshapen f s ≡ None
      unfolding miscount
      in-shape =
          shape-right f s h.regular h.fit
          (simp (
            le-leb (table f).fewest_rows (length (rows s)) (omega (arith, h.counted)),
            le-leb (length (rows s)) (table f).most_rows (omega (arith, h.counted)),
          ))

      module _
          (old new : List ℕ) (run : ℕ) (w : RowsLaid f count (take (length s - start) (drop start s)) old new run)
        where
          row-texts : AlikeRecords (rows s) (record_texts (width f) count (take (length s - start) (drop start s)))
          row-texts =
              rw (rest-lent start s, h.starts, h.counted)
              (left-records (width f) (fitting-tail (width f) (head_of s) (rows s) all)
              (first-record (width f) (fitting-first (width f) (head_of s) (rows s) (rw all (omega arith)))
              (rw (records-apart s) at (read-file s h.regular))).1)
            where
              all : fitting (width f) (head_of s ∷ rows s) ≡ length (head_of s ∷ rows s)
              all = rw (records-apart s) at h.fits

          all_laid :
              new ≡ all_cells (table f).columns (rows s) ++ drop (length (all_cells (table f).columns (rows s))) old
          all_laid = rw (cells-of-rows (table f).columns (rows s) (record_texts (width f) count (take (length s - start) (drop start s))) (rows_alike f row-texts)) w.laid

          well-formed : run ≡ leading (well_formed (table f).columns) (rows s)
          well-formed = w.run ∙ sym (leading-alike f row-texts)

          pub read-malformed : run < count → FileRead f s old new (Err (refused 3 f (run + 1)))
          unfolding malformed
          read-malformed l =
              let place : 1 + leading (well_formed (table f).columns) (rows s) ≡ run + 1 = omega (arith, well-formed) in
              malformed-read f s (run + 1) old new in-shape
              (first-leading (well_formed (table f).columns) 1 (rows s)
              ∙ simp (ne_eqb (leading (well_formed (table f).columns) (rows s)) (length (rows s)) (omega (arith, well-formed, h.counted)), place))
              all_laid

          pub read_all : count ≤ run → FileRead f s old new (Ok count)
          unfolding malformed
          read_all l =
              rw h.counted
              (rows-read f s old new in-shape
              (first-leading (well_formed (table f).columns) 1 (rows s)
              ∙ simp
              (eq-eqb (leading (well_formed (table f).columns) (rows s)) (length (rows s))
              (omega (arith, well-formed, h.counted, leading_le (well_formed (table f).columns) (rows s)))))
              all_laid)
