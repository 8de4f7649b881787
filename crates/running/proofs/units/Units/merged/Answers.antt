-- The merge, one turn after the other. Assumes nothing.
use mathlib.Core.Path.{sym, ◌∙◌}
use native.Mathlib.Omega.{arith}
use borrow.Author.Rules.{rules}
use Rattle.running.specs.View.{units_of}
use Rattle.running.proofs.ViewLaws.{counted, mapped}
use Rattle.running.proofs.FormingLaws.{formed-few}
use Rattle.running.proofs.CommitLaws.{merging-none, merging-room, merging-next, merging-over, some_left, none_left, fits-few}
use Rattle.running.proofs.units.Units.merged.Goals as goal

pub loop-self-init : goal.loop-self-init
loop-self-init c =
    merging-none _ _ _ (search (rules, mapped)) (fits-few _ _ c.requires.self_value c.requires.fits)

pub is_left-requires : goal.is_left-requires
is_left-requires c = tt

pub turn-turn-requires : goal.turn-turn-requires
turn-turn-requires c =
    let loop = c.loop-self in
    let units = counted c.args.self in
    let choices = counted c.args.chosen in
    let left = some_left _ _ _ _ (sym c.is_left.ensures ∙ c.loop-self-test.true) (omega arith) (omega arith) in
    record { count_le_most_running = formed-few _ c.requires.self_value; count_le_most_running_2 = c.requires.count_le_most_running; fits = c.requires.fits; i_le_count = (omega arith, omega arith, omega arith) }

pub offset_bounds-running-count : goal.offset_bounds-running-count
offset_bounds-running-count c = omega (arith, merging-room _ _ _ _ _ _ c.loop-self.invariant _ c.turn-turn.ensures)

pub bounds-running-count : goal.bounds-running-count
bounds-running-count c = merging-room _ _ _ _ _ _ c.loop-self.invariant _ c.turn-turn.ensures

pub overflow_add-count : goal.overflow_add-count
overflow_add-count c = omega (arith, merging-room _ _ _ _ _ _ c.loop-self.invariant _ c.turn-turn.ensures)

pub overflow_add-i : goal.overflow_add-i
overflow_add-i c =
    omega (arith, c.turn-turn.ensures.running-upto, counted c.args.self, formed-few _ c.requires.self_value)

pub overflow_add-j : goal.overflow_add-j
overflow_add-j c =
    omega (arith, c.turn-turn.ensures.chosen-upto, counted c.args.chosen)

pub loop-self-smaller : goal.loop-self-smaller
loop-self-smaller c =
    let turn = c.turn-turn.ensures in
    let units = counted c.args.self in
    let choices = counted c.args.chosen in
    omega (arith, turn.running-upto, turn.chosen-upto, turn.goes_on)

pub loop-self-preserved : goal.loop-self-preserved
loop-self-preserved c =
    merging-next _ _ _ _ _ _ c.loop-self.invariant _ c.turn-turn.ensures

pub returns : goal.returns
unfolding units_of
returns c =
    let loop = c.loop-self in
    let units = counted c.args.self in
    let choices = counted c.args.chosen in
    let done = none_left _ _ _ _ (sym c.is_left.ensures ∙ c.loop-self-test.false) in
    merging-over _ _ _ _ _ _ loop.invariant (omega arith) (omega arith)
