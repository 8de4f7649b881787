-- Laws of rows at a place of a file: field by field, and row by row. Assumes nothing.
use Rattle.std.specs.Prelude.{Some}
use Rattle.std.proofs.Common.{◌≡◌, ℕ, suc, ◌+◌, ◌-◌, ◌*◌, ◌<◌, ◌≤◌, Bool, true, false, ltb, List, [], ◌∷◌, ◌++◌, length, get_or, take, drop, set, sym, refl, ap, ◌∙◌, append_assoc, append-nil, suc-mul, add-one, arith, length-append, length-drop, length-set, take-append-drop, length-take-le, get_or-drop, take-suc, drop-drop, take-suc-set, drop-set-lt, le-ltb, lt-ltb}
use Rattle.base.proofs.Tests.{false-true}
use lib.Seq.{take-append-add, drop-append-add}
use Rattle.base.proofs.Lists.{drop-next, drop-end, drop-back, rest-lent, rest_back}
use Rattle.csv_text.specs.Grammar.{Field, Record}
use Rattle.csv_text.specs.promises.Rows.{Breaks, at-end, crlf, Rows}
use Rattle.csv_text.specs.Bytes.{COMMA, CR, LF}
use Rattle.tables.specs.Table.{Column, column, constraint_columns, supply_columns, schedules_columns, curves_columns, parents_columns, table, width}
use Rattle.tables.specs.declared.columns.Form.{Form}
use Rattle.tables.specs.declared.columns.Form.TheVariants.{Numeral as numeral, Signed as signed, Letter as letter}
use Rattle.tables.specs.Values.{value, in_form}
use Rattle.tables.specs.promises.Laying.{room}
use Rattle.tables.specs.declared.files.File.{File}
use Rattle.tables.specs.declared.files.File.TheVariants.{Constraint, Supply, Schedules, Curves, Parents}
use Rattle.tables.proofs.ColumnLaws.{form-at, minimum-at, maximum-at, minimum-small, maximum-small}
use Rattle.tables.specs.promises.Columns.{all_columns, column_count, first_column, column_at}
use Rattle.tables.specs.promises.RowCells.{CellsOf, RowsOf}
use Rattle.onepass.specs.promises.Walk.{FieldFound, Ranges, Separates, SeparatorFound, RowFound, RowsFound}
use Rattle.onepass.specs.declared.fields.Found.{Found}

-- separators

module _ (s : List ℕ) (at : ℕ) where
  pub is-comma : at < length s → get_or s at 0 ≡ COMMA → SeparatorFound s at true (at + 1)
  is-comma h e = record { separates = rw (drop-next 0 at s h, e) Separates.comma; inside = omega arith }

  pub is-end : length s ≤ at → SeparatorFound s at false (length s)
  is-end h =
      record {
        separates = rw (drop-end at s h, drop-end (length s) s (omega arith)) (Separates.end at-end);
        inside = omega arith;
      }

  pub is-crlf :
      at + 1 < length s → get_or s at 0 ≡ CR → get_or s (at + 1) 0 ≡ LF → SeparatorFound s at false (at + 2)
  is-crlf h c l =
      let two : at + 1 + 1 ≡ at + 2 = omega arith in
      record {
        separates = rw (drop-next 0 at s (omega arith), c, drop-next 0 (at + 1) s h, l, two) (Separates.end crlf);
        inside = omega arith;
      }

-- the code's tables at a column's place

module _ (fs : List Form) (ls ms : List ℕ) (t : Ranges fs ls ms) (i : ℕ) where
  pub range-fits : get_or ls i 0 + get_or ms i 0 ≤ 200000000
  range-fits = rw (t.minima, t.maxima) (omega (arith, minimum-small i, maximum-small i))

  pub range-lengths : (length fs ≡ column_count) × (length ls ≡ column_count) × (length ms ≡ column_count)
  unfolding all_columns constraint_columns supply_columns schedules_columns curves_columns parents_columns
  range-lengths = (ap length t.forms, ap length t.minima, ap length t.maxima)

  range-value : (v : List ℕ) → in_form (get_or fs i numeral) (get_or ls i 0) (get_or ms i 0) v ≡ value (column_at i) v
  unfolding value
  range-value v =
      rw (t.forms, t.minima, t.maxima, form-at i, minimum-at i, maximum-at i)

-- s is fields of some values, a COMMA behind each, and then r
pub data Led : List ℕ → List (List ℕ) → List ℕ → Type 0 where
  none : {s : List ℕ} → Led s [] s
  more : {s v t r : List ℕ} {vs : List (List ℕ)} → Field s v (COMMA ∷ t) → Led t vs r → Led s (v ∷ vs) r

-- one more field of a row

led-more :
    {s t v r : List ℕ} {vs : List (List ℕ)} → Led s vs t → Field t v (COMMA ∷ r) → Led s (vs ++ v ∷ []) r
led-more Led.none f = Led.more f Led.none
led-more (Led.more g l) f = Led.more g (led-more l f)

led-last : {s t v r : List ℕ} {vs : List (List ℕ)} → Led s vs t → Field t v r → Record s (vs ++ v ∷ []) r
led-last Led.none f = Record.last f
led-last (Led.more g l) f = Record.more g (led-last l f)

-- s is fields of some values, of which more follow or not, and then r
pub data Parted (s : List ℕ) : Bool → List (List ℕ) → List ℕ → Type 0 where
  still : {vs : List (List ℕ)} {r : List ℕ} → Led s vs r → Parted s true vs r
  over : {vs : List (List ℕ)} {e r : List ℕ} → Record s vs e → Breaks e r → Parted s false vs r

part-more :
    {s t v u r : List ℕ} {more : Bool} {vs : List (List ℕ)} →
    Parted s true vs t → Field t v u → Separates more u r → Parted s more (vs ++ v ∷ []) r
part-more (still l) f Separates.comma = still (led-more l f)
part-more (still l) f (Separates.end b) = over (led-last l f) b

cells-more :
    (c : Column) (v : List ℕ) {cs : List Column} {vs : List (List ℕ)} {x : ℕ} {xs : List ℕ} →
    CellsOf cs vs xs → value c v ≡ Some x → CellsOf (cs ++ c ∷ []) (vs ++ v ∷ []) (xs ++ x ∷ [])
cells-more c v CellsOf.none e = CellsOf.more e CellsOf.none
cells-more c v (CellsOf.more d w) e = CellsOf.more d (cells-more c v w e)

-- the columns from a place on
pub columns_from : ℕ → List Column
columns_from first = drop first all_columns

columns-length : (first : ℕ) → length (columns_from first) ≡ column_count - first
unfolding columns_from all_columns constraint_columns supply_columns schedules_columns curves_columns parents_columns
columns-length first = length-drop first all_columns

next-column :
    (first c : ℕ) → first + c < column_count → take (c + 1) (columns_from first) ≡ take c (columns_from first) ++ column_at (first + c) ∷ []
unfolding column_at columns_from
next-column first c h =
    rw add-one
    (take-suc (drop first all_columns) c (column "" numeral 0 0) (omega (arith, columns-length first))
    ∙ rw (get_or-drop first all_columns c (column "" numeral 0 0)))

take-set : (l : List ℕ) (c v : ℕ) → c < length l → take (c + 1) (set l c v) ≡ take c l ++ v ∷ []
take-set l c v h = rw add-one (take-suc-set l c v h)

-- a row of n columns of which c fields are laid down, and the rest that follows them
pub record LayingTo (s : List ℕ) (first n : ℕ) (old new rest : List ℕ) (c : ℕ) : Type 0 where
  pub upto : c ≤ n
  pub fits : first + n ≤ column_count
  pub room : n ≤ length old
  pub same_length : length new ≡ length old
  pub values : List (List ℕ)
  pub at : ℕ
  pub suffix : rest ≡ drop at s
  pub shorter : length rest ≤ length s
  pub parts : Parted s (ltb c n) values rest
  pub cells : CellsOf (take c (columns_from first)) values (take c new)
  pub kept : drop c new ≡ drop c old

file-columns : (f : File) → (1 ≤ width f) × (first_column f + width f ≤ column_count)
unfolding width constraint_columns supply_columns schedules_columns curves_columns parents_columns
file-columns Constraint = (omega arith, omega arith)
file-columns Supply = (omega arith, omega arith)
file-columns Schedules = (omega arith, omega arith)
file-columns Curves = (omega arith, omega arith)
file-columns Parents = (omega arith, omega arith)

whole-columns : (f : File) → take (width f) (columns_from (first_column f)) ≡ (table f).columns
unfolding columns_from width all_columns constraint_columns supply_columns schedules_columns curves_columns parents_columns
whole-columns Constraint = refl
whole-columns Supply = refl
whole-columns Schedules = refl
whole-columns Curves = refl
whole-columns Parents = refl

pub laying-none :
    (f : File) (s : List ℕ) (first n : ℕ) (old : List ℕ) → first ≡ first_column f → n ≡ width f → n ≤ length old →
    LayingTo s first n old old s 0
laying-none f s first n old e d r =
    record {
      upto = omega arith;
      fits = omega (arith, file-columns f);
      room = r;
      same_length = refl;
      values = [];
      at = 0;
      suffix = refl;
      shorter = omega arith;
      parts = rw (lt-ltb 0 n (omega (arith, file-columns f))) (still Led.none);
      cells = CellsOf.none;
      kept = refl;
    }

module _ (s : List ℕ) (first n : ℕ) (old new rest : List ℕ) (c : ℕ) (w : LayingTo s first n old new rest c) where
  pub stored-length : (x : ℕ) → length (set new c x) ≡ length old
  stored-length x = length-set new c x ∙ w.same_length

  pub laying-next :
      (fs : List Form) (ls ms : List ℕ) (r : Found) (next : ℕ) (further : Bool) → c < n → Ranges fs ls ms →
      FieldFound (in_form (get_or fs (first + c) numeral) (get_or ls (first + c) 0) (get_or ms (first + c) 0)) rest r →
      SeparatorFound rest r.next further next → further ≡ ltb (c + 1) n →
      LayingTo s first n old (set new c r.cell) (take (length rest - next) (drop next rest)) (c + 1)
  laying-next fs ls ms r next further h t d k e =
      rw (rest-lent next rest)
      (record {
        upto = omega arith;
        fits = w.fits;
        room = w.room;
        same_length = stored-length r.cell;
        values = w.values ++ d.text ∷ [];
        at = w.at + next;
        suffix = rw w.suffix (drop-drop next w.at s);
        shorter = omega (arith, w.shorter, length-drop next rest);
        parts = part-more (rw (lt-ltb c n h) at w.parts) d.field (rw e at k.separates);
        cells =
            rw (next-column first c (omega (arith, w.fits)), take-set new c r.cell (omega (arith, w.room, w.same_length)))
            (cells-more (column_at (first + c)) d.text w.cells (sym (range-value fs ls ms t (first + c) d.text) ∙ d.means));
        kept =
            drop-set-lt (c + 1) new c r.cell (omega arith)
            ∙ sym (drop-drop 1 c new)
            ∙ ap (drop 1) w.kept
            ∙ drop-drop 1 c old;
      })

  parted-over : {b : Bool} {vs : List (List ℕ)} {r : List ℕ} → Parted s b vs r → b ≡ false → (e : List ℕ) × Record s vs e × Breaks e r
  parted-over (still l) z = false-true (sym z)
  parted-over (over {e = e} d b) z = (e, d, b)

  pub laying-over : (f : File) → first ≡ first_column f → n ≡ width f → n ≤ c → RowFound f s old new (length s - length rest)
  laying-over f e d h =
      let all : c ≡ width f = omega (arith, w.upto) in
      let (ends, row, breaks) = parted-over w.parts (le-ltb c n h) in
      record {
        values = w.values;
        ends = ends;
        row = row;
        breaks = rw rest-again breaks;
        cells = rw (← whole-columns f, ← e, ← all) w.cells;
        kept = rw (← all) w.kept;
        inside = omega arith;
      }
    where
      rest-again : drop (length s - length rest) s ≡ rest
      rest-again =
          ap (λ (l : List ℕ). drop (length s - length l) s) w.suffix ∙ drop-back w.at s ∙ sym w.suffix

-- one more row

rows_more :
    {s t e r : List ℕ} {b : ℕ} {v : List (List ℕ)} {vs : List (List (List ℕ))} →
    Rows s vs (b ∷ t) → Record (b ∷ t) v e → Breaks e r → Rows s (vs ++ v ∷ []) r
rows_more Rows.none w d = Rows.more w d Rows.none
rows_more (Rows.more u c l) w d = Rows.more u c (rows_more l w d)

rows-of-more :
    {cs : List Column} {v : List (List ℕ)} {vs : List (List (List ℕ))} {x xs : List ℕ} →
    RowsOf cs vs xs → CellsOf cs v x → RowsOf cs (vs ++ v ∷ []) (xs ++ x)
rows-of-more {cs = cs} {v = v} {x = x} RowsOf.none w =
    let l : RowsOf cs (v ∷ []) (x ++ []) = RowsOf.more w RowsOf.none in
    rw (append-nil x) at l
rows-of-more {x = x} (RowsOf.more {x = y} {xs = ys} u l) w =
    rw (append_assoc y ys x) (RowsOf.more u (rows-of-more l w))

-- k rows are laid down as far as `at`, and the rest that follows them
pub record Walked (f : File) (s old new rest : List ℕ) (at k : ℕ) : Type 0 where
  pub upto : k ≤ (table f).most_rows
  pub room : at + ((table f).most_rows - k) * width f ≤ length old
  pub same_length : length new ≡ length old
  pub values : List (List (List ℕ))
  pub rows : Rows s values rest
  pub read : RowsOf (table f).columns values (take at new)
  pub counted : k ≡ length values
  pub kept : drop at new ≡ drop at old

module _ (f : File) (s old : List ℕ) where
  pub walked_none : room f ≤ length old → Walked f s old old s 0 0
  unfolding room
  walked_none r =
      record {
        upto = omega arith;
        room = rw whole r;
        same_length = refl;
        values = [];
        rows = Rows.none;
        read = RowsOf.none;
        counted = refl;
        kept = refl;
      }
    where
      whole : 0 + ((table f).most_rows - 0) * width f ≡ (table f).most_rows * width f
      whole =
          let all : (table f).most_rows - 0 ≡ (table f).most_rows = omega arith in
          rw all (omega arith)

  rows_left : (n k : ℕ) → k < n → (n - k) * width f ≡ width f + (n - (k + 1)) * width f
  rows_left n k h =
      let e : n - k ≡ suc (n - (k + 1)) = omega arith in
      rw (e, suc-mul (n - (k + 1)) (width f)) (omega arith)

  module _ (new rest : List ℕ) (at k : ℕ) (w : Walked f s old new rest at k) where
    -- there is room for one more
    pub walked-room : k < (table f).most_rows → at + width f ≤ length new
    walked-room h = omega (arith, w.room, w.same_length, rows_left (table f).most_rows k h)

    walked_next :
        (now : List ℕ) (next : ℕ) → k < (table f).most_rows → 0 < length rest → RowFound f rest (drop at new) now next →
        length now ≡ length (drop at new) →
        Walked f s old (take at new ++ now) (drop next rest) (at + width f) (k + 1)
    walked_next now next h l r e =
        record {
          upto = omega arith;
          room = omega (arith, w.room, rows_left (table f).most_rows k h);
          same_length =
              length-append (take at new) now
              ∙ (omega (arith, e, length-drop at new, front, walked-room h, w.same_length));
          values = w.values ++ r.values ∷ [];
          rows =
              rows_more (rw (drop-next 0 0 rest l) at w.rows) (rw (drop-next 0 0 rest l) at r.row) r.breaks;
          read = rw taken (rows-of-more w.read r.cells);
          counted = omega (arith, w.counted, length-append w.values (r.values ∷ []));
          kept = dropped ∙ r.kept ∙ drop-drop (width f) at new ∙ later;
        }
      where
        front : length (take at new) ≡ at
        front = length-take-le at new (omega (arith, walked-room h))

        taken : take (at + width f) (take at new ++ now) ≡ take at new ++ take (width f) now
        taken = rw front at (take-append-add (take at new) now (width f))

        dropped : drop (at + width f) (take at new ++ now) ≡ drop (width f) now
        dropped = rw front at (drop-append-add (take at new) now (width f))

        later : drop (at + width f) new ≡ drop (at + width f) old
        later = sym (drop-drop (width f) at new) ∙ ap (drop (width f)) w.kept ∙ drop-drop (width f) at old

    -- the next row, as lending the rest of the cells has it
    pub walked-turn :
        (now : List ℕ) (next columns : ℕ) → columns ≡ width f → k < (table f).most_rows → 0 < length rest →
        RowFound f rest (take (length new - at) (drop at new)) now next →
        length now ≡ length (take (length new - at) (drop at new)) →
        Walked f s old (take at new ++ (now ++ drop (length new - at) (drop at new)))
        (take (length rest - next) (drop next rest))
        (at + columns) (k + 1)
    walked-turn now next columns c h l q e =
        rw (c, rest_back at new, append-nil now, rest-lent next rest)
        (walked_next now next h l (rw (rest-lent at new) at q) (rw (rest-lent at new) at e))

    pub walked-over : length rest ≤ 0 → RowsFound f s old new k
    walked-over h =
        record {
          values = w.values;
          cells = take at new;
          rows = rw (drop-end 0 rest h) at w.rows;
          read = w.read;
          laid = sym (take-append-drop at new) ∙ rw (w.kept, front);
          counted = w.counted;
          most = w.upto;
        }
      where
        front : length (take at new) ≡ at
        front = length-take-le at new (omega (arith, w.room, w.same_length))
