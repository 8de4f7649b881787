-- A header and rows. Assumes nothing.
use Rattle.std.proofs.Common.{refl, arith, rules}
use Rattle.tables.specs.Table.{constraint_columns, supply_columns, schedules_columns, curves_columns, parents_columns}
use Rattle.tables.specs.promises.Columns.{all_columns}
use Rattle.onepass.proofs.FileLaws.{is-passed}
use Rattle.onepass.proofs.whole.pass.Goals as goal

pub lay_rows-requires : goal.lay_rows-requires
unfolding all_columns constraint_columns supply_columns schedules_columns curves_columns parents_columns
lay_rows-requires c = record { ranges = record { forms = refl; minima = refl; maxima = refl }; file_in_bounds = search rules }

pub returns : goal.returns
returns c = is-passed _ _ _ _ _ _ c.in_ok-start.ensures c.in_ok-rows.ensures (omega (arith, c.fewest_rows.ensures))
