-- A row against those that its links lead to, one a turn. Assumes nothing.
use Rattle.schedules.specs.promises.Answers.{odd_with}
use Rattle.links.specs.promises.Links.{Along}
use Rattle.schedules.proofs.odds.at_odds_along.Given as goal

abbrev pub invariant-loop-left : goal.invariant-loop-left
invariant-loop-left l = Along (odd_with l.cells l.k) l.k l.links l.left

abbrev pub decreases-loop-left : goal.decreases-loop-left
decreases-loop-left l = l.left
