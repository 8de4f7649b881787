-- A unit that a row before has, or one among the units. Assumes nothing.
use mathlib.Core.Path.{◌∙◌}
use Rattle.links.proofs.LinkLaws.{linked-upto}
use Rattle.schedules.proofs.SearchLaws.{repeats-known}
use native.Mathlib.Omega.{arith}
use Rattle.schedules.proofs.rows.is_known.Goals as goal

pub cell-requires : goal.cell-requires
cell-requires c = record { schedule_width_in_bounds = omega (arith, linked-upto c.requires.linked_to, c.link_at-left.ensures); column_lt_schedule_width = omega (arith, linked-upto c.requires.linked_to, c.link_at-left.ensures) }

pub returns-then-cell-unit : goal.returns-then-cell-unit
returns-then-cell-unit c = let a = c.args in repeats-known _ a.cells.now a.k a.links.now _ c.link_at-left.ensures c.requires.linked_to c.requires.known_before (omega arith) (omega arith)

pub returns : goal.returns
returns c = c.contains.ensures ∙ rw c.cell-unit.ensures
