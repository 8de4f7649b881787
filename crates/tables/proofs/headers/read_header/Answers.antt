-- Each file's header. Assumes nothing.
use Rattle.tables.specs.Table.{header, joined, header_text, constraint_columns, supply_columns, schedules_columns, curves_columns, parents_columns}
use Rattle.tables.specs.declared.files.File.TheVariants.{Constraint, Supply, Schedules, Curves, Parents}
use Rattle.tables.proofs.HeaderLaws.{header_read}
use mathlib.Core.Path.{refl}
use Rattle.tables.proofs.headers.read_header.Goals as goal

pub returns-in-Constraint : goal.returns-in-Constraint
unfolding header_text joined header constraint_columns
returns-in-Constraint c =
    let is = c.in-Constraint.is in
    rw is (header_read Constraint (rw is at c.width.ensures) refl c.compare_fields.ensures)

pub returns-in-Supply : goal.returns-in-Supply
unfolding header_text joined header supply_columns
returns-in-Supply c =
    let is = c.in-Supply.is in
    rw is (header_read Supply (rw is at c.width-in-Supply.ensures) refl c.compare_fields-in-Supply.ensures)

pub returns-in-Schedules : goal.returns-in-Schedules
unfolding header_text joined header schedules_columns
returns-in-Schedules c =
    let is = c.in-Schedules.is in
    rw is (header_read Schedules (rw is at c.width-in-Schedules.ensures) refl c.compare_fields-in-Schedules.ensures)

pub returns-in-Curves : goal.returns-in-Curves
unfolding header_text joined header curves_columns
returns-in-Curves c =
    let is = c.in-Curves.is in
    rw is (header_read Curves (rw is at c.width-in-Curves.ensures) refl c.compare_fields-in-Curves.ensures)

pub returns-in-Parents : goal.returns-in-Parents
unfolding header_text joined header parents_columns
returns-in-Parents c =
    let is = c.in-Parents.is in
    rw is (header_read Parents (rw is at c.width-in-Parents.ensures) refl c.compare_fields-in-Parents.ensures)
