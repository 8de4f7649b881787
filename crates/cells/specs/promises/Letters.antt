-- What the letters of an answer's row must be, in their cells of 64 bits, to be written as bytes. Assumes nothing.
use Rattle.std.specs.Prelude.{◌<◌}
use Rattle.tables.specs.declared.answer.AnswerRow.{AnswerRow}

-- verdict and kind are bytes
pub record Lettered (r : AnswerRow) : Type 0 where
  pub verdict : r.verdict < 256
  pub kind : r.kind < 256
