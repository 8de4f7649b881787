-- What the counts of bytes promise: the length of a text, and a bound of it that lets it be added up. Assumes nothing.
use Rattle.std.specs.Prelude.{ℕ, ◌+◌, ◌*◌, ◌≤◌, ◌≡◌, length}
use Rattle.numeral.specs.Numeral.{digits}
use Rattle.outcome.specs.Answer.{line}
use Rattle.tables.specs.declared.answer.AnswerRow.{AnswerRow}

-- the digits of a number of 64 bits, at most
abbrev pub most_digits : ℕ
most_digits = 20

-- the commas of a row, its two letters and its CR LF
abbrev pub fixed_bytes : ℕ
fixed_bytes = 10

-- five numerals, and what stands around them
abbrev pub most_line : ℕ
most_line = 5 * most_digits + fixed_bytes

pub record NumeralLength (n count : ℕ) : Type 0 where
  pub counted : count ≡ length (digits n)
  pub most : count ≤ most_digits

pub record LineLength (r : AnswerRow) (count : ℕ) : Type 0 where
  pub counted : count ≡ length (line r)
  pub most : count ≤ most_line
