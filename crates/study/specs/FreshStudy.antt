-- Document 01: the program "studies a fresh day and prints the answer file, or number, file and place". What it answers and what its
-- buffer holds are those of the outcome. Assumes nothing.
use Rattle.tables.specs.Refusals.{count_of, told_by}
use Rattle.tables.specs.declared.files.Refusal.{Refusal}
use Rattle.std.specs.Prelude.{ℕ, ◌≡◌, List, Result}
use Rattle.checking.specs.Files.{Files}
use Rattle.outcome.specs.Day.{fresh_day}
use Rattle.outcome.specs.Study.{studied}

pub record StudiesFresh (f : Files) (old new : List ℕ) (r : Result ℕ Refusal) : Type 0 where
  pub tells : told_by r ≡ (studied fresh_day f old).told
  pub counts : count_of r ≡ (studied fresh_day f old).count
  pub bytes : new ≡ (studied fresh_day f old).buffer
