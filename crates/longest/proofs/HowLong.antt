-- How many bytes the longest answer has. Assumes nothing.
use mathlib.Core.Path.{◌≡◌, refl}
use Rattle.numeral.proofs.Computing.{numeral_all}
use Rattle.outcome.proofs.Computing.{answer_all}
use Rattle.longest.specs.Longest.{longest}

pub longest-is : longest ≡ 2799
unfolding longest answer_all numeral_all
longest-is = refl
