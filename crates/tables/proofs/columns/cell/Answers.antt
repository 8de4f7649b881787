-- A field by its column's form and range. Assumes nothing.
use native.Mathlib.Omega.{arith}
use Rattle.tables.specs.Table.{constraint_columns, supply_columns, schedules_columns, curves_columns, parents_columns}
use Rattle.tables.specs.declared.columns.Form.TheVariants.{Numeral as numeral, Signed as signed, Letter as letter}
use Rattle.tables.specs.Values.{in_form}
use Rattle.tables.specs.promises.Columns.{all_columns}
use Rattle.tables.proofs.ColumnLaws.{minimum-small, maximum-small, cell-value}
use Rattle.tables.proofs.columns.cell.Goals as goal

pub returns-in-Numeral : goal.returns-in-Numeral
unfolding in_form all_columns constraint_columns supply_columns schedules_columns curves_columns parents_columns
returns-in-Numeral c = cell-value c.args.column _ numeral c.in-Numeral.is c.read.ensures

pub excess-requires : goal.excess-requires
unfolding all_columns constraint_columns supply_columns schedules_columns curves_columns parents_columns
excess-requires c = omega (arith, minimum-small c.args.column, maximum-small c.args.column)

pub returns-in-Signed : goal.returns-in-Signed
unfolding in_form all_columns constraint_columns supply_columns schedules_columns curves_columns parents_columns
returns-in-Signed c = cell-value c.args.column _ signed c.in-Signed.is c.excess.ensures

pub returns-in-Letter : goal.returns-in-Letter
unfolding in_form all_columns constraint_columns supply_columns schedules_columns curves_columns parents_columns
returns-in-Letter c = cell-value c.args.column _ letter c.in-Letter.is c.one_of.ensures
