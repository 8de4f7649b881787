-- The longest tidy file of each kind: as many rows as the table permits, each field as wide as its column's range permits. Assumes
-- nothing; `proofs/LongestLaws` shows that no tidy file is longer.
use Rattle.std.specs.Prelude.{ℕ, map, length, replicate}
use Rattle.tables.specs.Table.{Column, table}
use Rattle.tables.specs.declared.columns.Form.{Form}
use Rattle.tables.specs.declared.columns.Form.TheVariants.{Numeral as numeral, Signed as signed, Letter as letter}
use Rattle.tables.specs.declared.files.File.{File}
use Rattle.tidy.specs.Tidy.{tidy_text}

-- the cell of a column's widest field: the largest number, or the lowest where a minus is one byte more; a letter is one byte
abbrev pub widest_as : Form → ℕ → ℕ
widest_as numeral maximum = maximum
widest_as signed maximum = 0
widest_as letter maximum = maximum

abbrev pub widest : Column → ℕ
widest c = widest_as c.form c.maximum

unfoldable pub longest_tidy : File → ℕ
longest_tidy f = length (tidy_text f (replicate (table f).most_rows (map widest (table f).columns)))
