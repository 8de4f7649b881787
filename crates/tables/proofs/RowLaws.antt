-- Laws of laying down rows, over plain lists: field by field, and row by row. Assumes nothing.
use Rattle.std.specs.Prelude.{None, Option, Some, is_some as is_there, unwrap_or}
use Prim.Native.Nat.{ℕ, zero, suc, ◌+◌, ◌-◌, ◌*◌, ◌≤◌, ◌<◌}
use mathlib.Core.Path.{◌≡◌, refl, sym, ◌∙◌, ap}
use mathlib.Core.Bool.{Bool, true, false, ◌&&◌, and_assoc, and-true}
use mathlib.Core.List.{List, [], ◌∷◌, ◌++◌, append_assoc, append-nil}
use native.Mathlib.Omega.{arith}
use native.Mathlib.Nat.{suc-mul}
use native.Mathlib.Numerals.{add-one}
use lib.ListN.{length, take, drop, set, length-drop, length-take, length-set, length-append, take-append-drop}
use lib.Seq.{drop-drop, get_or-drop, get_or-take, take-suc-set, drop-set-lt, append_snoc, take_at, drop_at, length-take-le}
use lib.Dec.{eqb}
use Rattle.base.proofs.Searches.{joined, joined-none, joined-more, one-le}
use Rattle.base.proofs.Lists.{drop-next, drop-end, drop-back, rest-lent, rest_back}
use Rattle.base.specs.promises.Counting.{one, leading}
use Rattle.csv_text.specs.promises.Fields.{extent, inner, unread, texts, passed, record_texts}
use Rattle.tables.specs.Table.{Column, column, constraint_columns, supply_columns, schedules_columns, curves_columns, parents_columns, table, width}
use Rattle.tables.specs.declared.columns.Form.TheVariants.{Numeral as numeral}
use Rattle.tables.specs.Values.{value, is_some, cells, well_formed}
use Rattle.tables.specs.promises.Laying.{FieldRead, RowLaid, RowsLaid}
use Rattle.tables.specs.declared.files.File.{File}
use Rattle.tables.specs.declared.files.File.TheVariants.{Constraint, Supply, Schedules, Curves, Parents}
use Rattle.tables.specs.declared.rows.Field.{Field}
use Rattle.tables.specs.declared.rows.Row.{Row}
use Rattle.tables.specs.promises.Answers.{all_cells}
use Rattle.tables.specs.promises.Columns.{all_columns, column_count, first_column, column_at}

-- some columns that stand side by side in the table of all files
unfoldable pub part : ℕ → ℕ → List Column
part first n = take n (drop first all_columns)

pub columns-part : (f : File) → (table f).columns ≡ part (first_column f) (width f)
unfolding part width all_columns constraint_columns supply_columns schedules_columns curves_columns parents_columns
columns-part Constraint = refl
columns-part Supply = refl
columns-part Schedules = refl
columns-part Curves = refl
columns-part Parents = refl

pub within_all : (f : File) → first_column f + width f ≤ column_count
unfolding width constraint_columns supply_columns schedules_columns curves_columns parents_columns
within_all Constraint = omega arith
within_all Supply = omega arith
within_all Schedules = omega arith
within_all Curves = omega arith
within_all Parents = omega arith

all-length : length all_columns ≡ column_count
unfolding all_columns constraint_columns supply_columns schedules_columns curves_columns parents_columns
all-length = refl

module _ (first n : ℕ) (fits : first + n ≤ column_count) where
  part_length : length (part first n) ≡ n
  unfolding part
  part_length = simp (length-take, length-drop, all-length) (omega arith)

  part-next : (c : ℕ) → c < n → drop c (part first n) ≡ column_at (first + c) ∷ drop (c + 1) (part first n)
  unfolding column_at part
  part-next c h =
      drop-next (column "" numeral 0 0) c (part first n) (rw part_length h)
      ∙ rw (get_or-take n (drop first all_columns) c (column "" numeral 0 0) h, get_or-drop first all_columns c (column "" numeral 0 0))

-- a number of fields that are left, one less
left_less : (n c : ℕ) → c < n → n - c ≡ suc (n - (c + 1))
left_less n c h = omega arith

module _ (n c : ℕ) (h : c < n) (s : List ℕ) where
  pub texts-next : texts (n - c) s ≡ inner (take (extent false s) s) ∷ texts (n - (c + 1)) (unread s (extent false s))
  unfolding texts
  texts-next = rw (left_less n c h)

  pub passed-next : passed (n - c) s ≡ passed (n - (c + 1)) (unread s (extent false s))
  unfolding passed
  passed-next = rw (left_less n c h)

take-set : (l : List ℕ) (c v : ℕ) → c < length l → take (c + 1) (set l c v) ≡ take c l ++ (v ∷ [])
take-set l c v h = rw add-one (take-suc-set l c v h)

-- a row of n columns from `first` on, of which c are laid down, and what is left unread
pub record Laying (s old : List ℕ) (first n : ℕ) (new rest : List ℕ) (good : Bool) (c : ℕ) : Type 0 where
  pub upto : c ≤ n
  pub fits : first + n ≤ column_count
  pub room : n ≤ length old
  pub same_length : length new ≡ length old
  pub at : ℕ
  pub suffix : rest ≡ drop at s
  pub shorter : length rest ≤ length s
  pub passes : passed n s ≡ passed (n - c) rest
  pub laid : cells (part first n) (texts n s) ≡ take c new ++ cells (drop c (part first n)) (texts (n - c) rest)
  pub kept : drop c new ≡ drop c old
  pub formed : well_formed (part first n) (texts n s) ≡ (good && well_formed (drop c (part first n)) (texts (n - c) rest))

pub laying-none : (s old : List ℕ) (first n : ℕ) → first + n ≤ column_count → n ≤ length old → Laying s old first n old s true 0
laying-none s old first n fits room =
    record {
      upto = omega arith;
      fits = fits;
      room = room;
      same_length = refl;
      at = 0;
      suffix = refl;
      shorter = omega arith;
      passes = rw whole;
      laid = rw whole;
      kept = refl;
      formed = rw whole;
    }
  where
    whole : n - 0 ≡ n
    whole = omega arith

-- whether there is a cell, by the test of the definitions and by the code's
same_test : (o : Option ℕ) → is_some o ≡ is_there o
unfolding is_some
same_test None = refl
same_test (Some n) = refl

pub laying-next :
    (s old : List ℕ) (first n : ℕ) (new rest : List ℕ) (good : Bool) (c : ℕ) (r : Field) →
    Laying s old first n new rest good c → c < n → FieldRead (first + c) rest r →
    Laying s old first n (set new c (unwrap_or r.cell 0)) (take (length rest - r.next) (drop r.next rest)) (good && is_there r.cell) (c + 1)
laying-next s old first n new rest good c r l h f =
    rw (rest-lent r.next rest)
    (record {
      upto = omega arith;
      fits = l.fits;
      room = l.room;
      same_length = length-set new c cell ∙ l.same_length;
      at = l.at + r.next;
      suffix = rw l.suffix (drop-drop r.next l.at s);
      shorter = omega (arith, l.shorter, length-drop r.next rest);
      passes = l.passes ∙ passed-next n c h rest ∙ rw f.next;
      laid = l.laid ∙ one_more;
      kept = drop-set-lt (c + 1) new c cell (omega arith) ∙ sym (drop-drop 1 c new) ∙ ap (drop 1) l.kept ∙ drop-drop 1 c old;
      formed = l.formed ∙ so_far;
    })
  where
    cell : ℕ
    cell = unwrap_or r.cell 0

    one_more :
        take c new ++ cells (drop c (part first n)) (texts (n - c) rest)
        ≡ take (c + 1) (set new c cell) ++ cells (drop (c + 1) (part first n)) (texts (n - (c + 1)) (drop r.next rest))
    one_more =
        unfold cells in
        rw (
          part-next first n l.fits c h,
          texts-next n c h rest,
          ← f.cell,
          ← f.next,
          take-set new c cell (rw l.same_length (omega (arith, l.room))),
          append_snoc,
        )

    so_far :
        (good && well_formed (drop c (part first n)) (texts (n - c) rest))
        ≡ (good && is_there r.cell && well_formed (drop (c + 1) (part first n)) (texts (n - (c + 1)) (drop r.next rest)))
    so_far =
        unfold well_formed in
        rw (part-next first n l.fits c h, texts-next n c h rest, ← f.cell, ← f.next, same_test r.cell) (sym (and_assoc good (is_there r.cell) _))

-- a whole row
pub laying-over :
    (f : File) (s old : List ℕ) (new rest : List ℕ) (good : Bool) (c : ℕ) →
    Laying s old (first_column f) (width f) new rest good c → width f ≤ c →
    RowLaid f s old new (record { good = good; next = length s - length rest })
laying-over f s old new rest good c l h =
    record {
      good = sym (ap (λ (cs : List Column). well_formed cs (texts (width f) s)) (columns-part f) ∙ l.formed ∙ all-formed);
      laid = sym (take-append-drop c new) ∙ rw (← whole, ← kept);
      within = omega arith;
      next = next-is ∙ sym l.passes;
    }
  where
    none_left : drop c (part (first_column f) (width f)) ≡ []
    none_left = drop-end c (part (first_column f) (width f)) (rw (part_length (first_column f) (width f) l.fits) h)

    no_fields : width f - c ≡ 0
    no_fields = omega arith

    all-formed : (good && well_formed (drop c (part (first_column f) (width f))) (texts (width f - c) rest)) ≡ good
    all-formed = unfold well_formed in rw none_left (and-true good)

    next-is : drop (length s - length rest) s ≡ passed (width f - c) rest
    next-is = unfold passed in rw (no_fields, l.suffix) (drop-back l.at s)

    whole : cells (table f).columns (texts (width f) s) ≡ take c new
    whole =
        ap (λ (cs : List Column). cells cs (texts (width f) s)) (columns-part f)
        ∙ l.laid
        ∙ (unfold cells in rw none_left (append-nil (take c new)))

    kept : drop (width f) old ≡ drop c new
    kept =
        let over : c ≡ width f = omega (arith, l.upto) in
        sym (ap (λ (i : ℕ). drop i old) over) ∙ sym l.kept

-- a field by its parts: its length n, its text, its cell, and what follows
pub field-read :
    (column : ℕ) (s text : List ℕ) (n : ℕ) (r : Field) → n ≡ extent false s → text ≡ inner (take (n - 0) s) →
    r.cell ≡ value (column_at column) text → drop r.next s ≡ unread s n → r.next ≤ length s → FieldRead column s r
field-read column s text n r reaches is read follows inside =
    let whole : n - 0 ≡ extent false s = omega arith in
    record {
      within = inside;
      next = follows ∙ rw reaches;
      cell = read ∙ rw (is, whole);
    }

pub cells-length : (cs : List Column) (vs : List (List ℕ)) → length vs ≡ length cs → length (cells cs vs) ≡ length cs
unfolding cells
cells-length [] vs e = refl
cells-length (c ∷ cs) [] e = e
cells-length (c ∷ cs) (v ∷ vs) e = ap suc (cells-length cs vs (omega arith))

texts-length : (n : ℕ) (s : List ℕ) → length (texts n s) ≡ n
unfolding texts
texts-length zero s = refl
texts-length (suc n) s = ap suc (texts-length n (unread s (extent false s)))

-- w cells are put into a list from `at` on
record Pasted (old row : List ℕ) (at w : ℕ) (new : List ℕ) : Type 0 where
  length-is : length new ≡ length old
  front : take (at + w) new ≡ take at old ++ row
  back : drop (at + w) new ≡ drop (at + w) old

paste-row :
    (old row : List ℕ) (at w : ℕ) → length row ≡ w → at + w ≤ length old →
    Pasted old row at w (take at old ++ (row ++ drop w (drop at old)))
paste-row old row at w e room =
    rw whole
    (record {
      length-is = rw length-append (omega (arith, front_length, length-drop (at + w) old));
      front = take_at (take at old ++ row) (drop (at + w) old) (at + w) front_length;
      back = drop_at (take at old ++ row) (drop (at + w) old) (at + w) front_length;
    })
  where
    whole : take at old ++ (row ++ drop w (drop at old)) ≡ (take at old ++ row) ++ drop (at + w) old
    whole = rw (drop-drop w at old) (sym (append_assoc (take at old) row (drop (at + w) old)))

    front_length : length (take at old ++ row) ≡ at + w
    front_length = rw length-append (omega (arith, length-take-le at old (omega arith)))

module _ (f : File) where
  -- the cells of the row at the start of some bytes
  abbrev row_cells : List ℕ → List ℕ
  row_cells s = cells (table f).columns (texts (width f) s)

  row-length : (s : List ℕ) → length (row_cells s) ≡ width f
  unfolding width
  row-length s = cells-length (table f).columns (texts (width f) s) (texts-length (width f) s)

  -- `count` rows, of which k are laid down as far as `at`, and the first `run` are well-formed
  pub record LayingRows (s : List ℕ) (count : ℕ) (old new rest : List ℕ) (at run k : ℕ) : Type 0 where
    pub upto : k ≤ count
    pub room : at + (count - k) * width f ≤ length old
    pub same_length : length new ≡ length old
    pub less : run ≤ k
    pub counted :
        leading (well_formed (table f).columns) (record_texts (width f) count s)
        ≡ joined (well_formed (table f).columns) run k (record_texts (width f) (count - k) rest)
    pub laid : all_cells (table f).columns (record_texts (width f) count s) ≡ take at new ++ all_cells (table f).columns (record_texts (width f) (count - k) rest)
    pub kept : drop at new ≡ drop at old

  pub rows_none : (s : List ℕ) (count : ℕ) (old : List ℕ) → count * width f ≤ length old → LayingRows s count old old s 0 0 0
  unfolding joined
  rows_none s count old room =
      record {
        upto = omega arith;
        room = rw whole (omega arith);
        same_length = refl;
        less = omega arith;
        counted = rw whole (omega arith);
        laid = rw whole;
        kept = refl;
      }
    where
      whole : count - 0 ≡ count
      whole = omega arith

  rows_left : (count k : ℕ) → k < count → (count - k) * width f ≡ width f + (count - (k + 1)) * width f
  rows_left count k h = rw (left_less count k h, suc-mul (count - (k + 1)) (width f)) (omega arith)

  rows_next :
      (s : List ℕ) (count : ℕ) (old new rest now : List ℕ) (at run k : ℕ) (r : Row) →
      LayingRows s count old new rest at run k → k < count → RowLaid f rest (drop at new) now r →
      LayingRows s count old (take at new ++ now) (drop r.next rest) (at + width f) (run + one (eqb run k && r.good)) (k + 1)
  rows_next s count old new rest now at run k r l h w =
      record {
        upto = omega arith;
        room = omega (arith, l.room, rows_left count k h);
        same_length = omega (arith, pasted.length-is, l.same_length);
        less = omega (arith, l.less, one-le (eqb run k && r.good));
        counted = l.counted ∙ rw (records-next, w.good) (sym (joined-more formed run k (texts (width f) rest) _ l.less));
        laid = l.laid ∙ (unfold all_cells in rw (records-next, pasted.front) (sym (append_assoc (take at new) (row_cells rest) _)));
        kept = pasted.back ∙ sym (drop-drop (width f) at new) ∙ ap (drop (width f)) l.kept ∙ drop-drop (width f) at old;
      }
    where
      formed : List (List ℕ) → Bool
      formed = well_formed (table f).columns

      records-next :
          record_texts (width f) (count - k) rest
          ≡ texts (width f) rest ∷ record_texts (width f) (count - (k + 1)) (drop r.next rest)
      records-next = unfold record_texts in rw (left_less count k h, w.next)

      pasted : Pasted new (row_cells rest) at (width f) (take at new ++ now)
      pasted = rw w.laid (paste-row new (row_cells rest) at (width f) (row-length rest) (omega (arith, l.room, rows_left count k h, l.same_length)))

  -- all rows
  pub rows-over :
      (s : List ℕ) (count : ℕ) (old new rest : List ℕ) (at run k : ℕ) →
      LayingRows s count old new rest at run k → count ≤ k → RowsLaid f count s old new run
  unfolding record_texts all_cells
  rows-over s count old new rest at run k l h =
      record {
        run = sym (l.counted ∙ rw none_left (joined-none (well_formed (table f).columns) run k));
        laid = sym (take-append-drop at new) ∙ rw (l.kept, ← all, counted);
      }
    where
      none_left : count - k ≡ 0
      none_left = omega arith

      all : all_cells (table f).columns (record_texts (width f) count s) ≡ take at new
      all = l.laid ∙ rw none_left (append-nil (take at new))

      counted : at ≡ length (all_cells (table f).columns (record_texts (width f) count s))
      counted = rw all (sym (length-take-le at new (omega (arith, l.room, l.same_length))))

  -- there is room for the next row
  pub rows-room :
      (s : List ℕ) (count : ℕ) (old new rest : List ℕ) (at run k : ℕ) →
      LayingRows s count old new rest at run k → k < count → at + width f ≤ length new
  rows-room s count old new rest at run k l h =
      omega (arith, l.room, l.same_length, rows_left count k h)

  -- the next row, as lending the rest of the cells and of the file has it
  pub rows-turn :
      (s : List ℕ) (count : ℕ) (old new rest now : List ℕ) (at run k columns more : ℕ) (r : Row) → columns ≡ width f →
      more ≡ one (eqb run k && r.good) → LayingRows s count old new rest at run k → k < count →
      RowLaid f rest (take (length new - at) (drop at new)) now r →
      LayingRows s count old (take at new ++ (now ++ drop (length new - at) (drop at new)))
      (take (length rest - r.next) (drop r.next rest))
      (at + columns) (run + more) (k + 1)
  rows-turn s count old new rest now at run k columns more r e m l h w =
      rw (e, m, rest-lent r.next rest, rest_back at new, append-nil now)
      (rows_next s count old new rest now at run k r l h (rw (rest-lent at new) at w))
