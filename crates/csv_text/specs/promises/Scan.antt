-- What the scan answers: whether a file is RFC 4180, how many records it has, and how many of these have the fields that
-- are asked before the first that has not. And the tally that it keeps, byte by byte, to find that out; that the two are
-- the same is shown in `proofs/Scanned`. Assumes nothing.
use Rattle.std.specs.Prelude.{ℕ, ◌+◌, ◌≤◌, ◌^◌, max, Bool, true, false, cond, ◌&&◌, List, [], ◌∷◌, map, eqb, length, Option, Some, None}
use Rattle.base.specs.promises.Counting.{one, leading}
use Rattle.csv_text.specs.Records.{State, begin, plain, quoted, closing, ended, broken, next, final, rfc4180, records}
use Rattle.csv_text.specs.declared.scanning.Place.{Place}
use Rattle.csv_text.specs.declared.scanning.Place.TheVariants.{Begin, Plain, Quoted, Closing, Ended, Broken}
use Rattle.csv_text.specs.declared.scanning.Regular.{Regular}
use Rattle.csv_text.specs.declared.scanning.Tally.{Tally as Kept}
use Rattle.csv_text.specs.Bytes.{COMMA}

-- the records of a file with the number of fields that is asked, up to the first that has another
unfoldable pub fitting : ℕ → List (List (List ℕ)) → ℕ
fitting width rs = leading (eqb width) (map length rs)

-- what is found of a regular file
abbrev pub found_regular : ℕ → ℕ → Option Regular
found_regular count fit = Some (record { records = count; fitting = fit })

unfoldable pub scanned : ℕ → List ℕ → Option Regular
scanned width s = cond (rfc4180 s) (found_regular (length (records s)) (fitting width (records s))) None

pub record Tally : Type 0 where
  pub state : State
  -- fields of the record that is begun, 0 where none is
  pub fields : ℕ
  -- records that have ended
  pub records : ℕ
  -- records that have ended, up to the first whose number of fields is another than asked
  pub fitting : ℕ

-- at the start of a file a record is begun
unfoldable pub start : Tally
start = record { state = begin; fields = 1; records = 0; fitting = 0 }

-- the record begun has ended, and the next stands at state q
unfoldable pub over : ℕ → State → Tally → Tally
over width q t =
    record {
      state = q;
      fields = 0;
      records = t.records + 1;
      fitting = t.fitting + one (eqb t.fitting t.records && eqb width t.fields);
    }

-- whether a byte at a state begins one more field
abbrev pub separates : State → ℕ → Bool
separates begin b = eqb b COMMA
separates plain b = eqb b COMMA
separates quoted b = false
separates closing b = eqb b COMMA
separates ended b = false
separates broken b = false

-- a byte of a record, which begins one where none is begun
unfoldable pub inside_field : ℕ → Tally → Tally
inside_field b t =
    record {
      state = next t.state b;
      fields = max t.fields 1 + one (separates t.state b);
      records = t.records;
      fitting = t.fitting;
    }

abbrev pub at_end : State → Bool
at_end begin = false
at_end plain = false
at_end quoted = false
at_end closing = false
at_end ended = true
at_end broken = false

-- the tally after one byte more
unfoldable pub step : ℕ → Tally → ℕ → Tally
step width t b = cond (at_end t.state) (over width (next t.state b) t) (inside_field b t)

unfoldable pub tally : ℕ → Tally → List ℕ → Tally
tally width t [] = t
tally width t (b ∷ s) = tally width (step width t b) s

-- the file's end ends the record that is begun
unfoldable pub finished : ℕ → Tally → Tally
finished width t = cond (eqb t.fields 0) t (over width t.state t)

unfoldable pub scan_answer : Tally → Option Regular
scan_answer t = cond (final t.state) (found_regular t.records t.fitting) None

-- the code's names for states and its tally
abbrev pub state : Place → State
state Begin = begin
state Plain = plain
state Quoted = quoted
state Closing = closing
state Ended = ended
state Broken = broken

unfoldable pub tally_of : Kept → Tally
tally_of t = record { state = state t.place; fields = t.fields; records = t.records; fitting = t.fitting }

-- the counts of a file in memory
pub record Small (t : Kept) : Type 0 where
  pub fields : t.fields ≤ 2 ^ 63
  pub records : t.records ≤ 2 ^ 63
  pub fitting : t.fitting ≤ 2 ^ 63
