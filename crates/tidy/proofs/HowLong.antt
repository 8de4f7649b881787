-- How many bytes the longest tidy files have. Assumes nothing.
use mathlib.Core.Path.{◌≡◌, refl}
use Rattle.numeral.proofs.Computing.{numeral_all}
use Rattle.tables.specs.declared.files.File.TheVariants.{Constraint, Supply, Schedules}
use Rattle.tables.proofs.Computing.{table_all}
use Rattle.tidy.specs.Longest.{longest_tidy}
use Rattle.tidy.proofs.Computing.{tidy_all}

pub longest-constraint-is : longest_tidy Constraint ≡ 38
unfolding longest_tidy tidy_all numeral_all table_all
longest-constraint-is = refl

pub longest-supply-is : longest_tidy Supply ≡ 7964
unfolding longest_tidy tidy_all numeral_all table_all
longest-supply-is = refl

pub longest-schedules-is : longest_tidy Schedules ≡ 52284
unfolding longest_tidy tidy_all numeral_all table_all
longest-schedules-is = refl
