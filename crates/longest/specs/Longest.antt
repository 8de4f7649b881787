-- Document 01: "Its buffer holds the longest answer." That is the answer with a row for each of 64 units, every number in it as large
-- as the ranges of the files' columns permit. Assumes nothing; `proofs/StudyLongest` shows that no accepted study's answer is longer.
use Rattle.std.specs.Prelude.{ℕ, suc, ◌+◌, ◌*◌, length, replicate}
use Rattle.hours.specs.Hours.{last_hour}
use Rattle.tables.specs.Table.{table, C, highest_supplier}
use Rattle.tables.specs.declared.answer.AnswerRow.{AnswerRow}
use Rattle.tables.specs.declared.files.File.TheVariants.{Supply}
use Rattle.supply.specs.Supply.{most_units}
use Rattle.choice.specs.Cost.{most_hour}
use Rattle.pivotal.specs.Test.{F, verdict_letter}
use Rattle.outcome.specs.Answer.{answer_text}

-- the most that can be left: as many rows as supply may have, each with the highest mw × |dfax|
abbrev pub most_left : ℕ
most_left = (table Supply).most_rows * (100000 * 10000)

-- the most that a schedule can cost: every hour of the day, and 10 × startup
abbrev pub most_cost : ℕ
most_cost = suc last_hour * most_hour + 10 * 100000000

-- a row of which every field is as wide as it can be; verdict and kind are one letter each
abbrev pub widest_row : AnswerRow
widest_row =
    record {
      unit = 9999;
      supplier = highest_supplier;
      verdict = verdict_letter F;
      left = most_left;
      schedule = 99;
      kind = C;
      cost = most_cost;
    }

-- how many bytes the longest answer has
unfoldable pub longest : ℕ
longest = length (answer_text (replicate most_units widest_row))
