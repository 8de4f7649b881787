-- What opens the definitions of this crate, for examples that compute. Assumes nothing.
use Rattle.tables.specs.Reading.{rows, same_fields, misfit, miscount, malformed, irregular, misshapen, refusal}
use Rattle.tables.specs.Table.{constraint_columns, supply_columns, schedules_columns, curves_columns, parents_columns, header, joined, header_text, width}
use Rattle.tables.specs.Values.{excess, one_of, in_form, value, is_some, cells, well_formed}
use Rattle.tables.specs.promises.Answers.{reading, laid, all_cells}
use Rattle.tables.specs.promises.Columns.{all_columns, column_at}

unfoldable pub table_reading_all : Unit {0}
unfolding rows same_fields misfit miscount malformed irregular misshapen refusal reading laid
table_reading_all = tt

unfoldable pub table_all : Unit {0}
unfolding constraint_columns supply_columns schedules_columns curves_columns parents_columns all_columns column_at header joined header_text width
table_all = tt

unfoldable pub values_all : Unit {0}
unfolding excess one_of in_form value is_some cells well_formed all_cells
values_all = tt
