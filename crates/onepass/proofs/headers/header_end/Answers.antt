-- Each file's header. Assumes nothing.
use Rattle.std.proofs.lemmas.Option.{IfSome_then}
use Rattle.tables.specs.Table.{header, joined, header_text, constraint_columns, supply_columns, schedules_columns, curves_columns, parents_columns}
use Rattle.tables.specs.declared.files.File.TheVariants.{Constraint, Supply, Schedules, Curves, Parents}
use Rattle.onepass.proofs.HeaderLaws.{header-found}
use Rattle.onepass.proofs.headers.header_end.Goals as goal

pub returns-in-Constraint : goal.returns-in-Constraint
unfolding header_text joined header constraint_columns
returns-in-Constraint c = rw c.in-Constraint.is (IfSome_then _ c.either_end.ensures (header-found Constraint _))

pub returns-in-Supply : goal.returns-in-Supply
unfolding header_text joined header supply_columns
returns-in-Supply c = rw c.in-Supply.is (IfSome_then _ c.either_end-in-Supply.ensures (header-found Supply _))

pub returns-in-Schedules : goal.returns-in-Schedules
unfolding header_text joined header schedules_columns
returns-in-Schedules c = rw c.in-Schedules.is (IfSome_then _ c.either_end-in-Schedules.ensures (header-found Schedules _))

pub returns-in-Curves : goal.returns-in-Curves
unfolding header_text joined header curves_columns
returns-in-Curves c = rw c.in-Curves.is (IfSome_then _ c.either_end-in-Curves.ensures (header-found Curves _))

pub returns-in-Parents : goal.returns-in-Parents
unfolding header_text joined header parents_columns
returns-in-Parents c = rw c.in-Parents.is (IfSome_then _ c.either_end-in-Parents.ensures (header-found Parents _))
