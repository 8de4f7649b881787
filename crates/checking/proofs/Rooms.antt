-- The cells that each file's longest form takes, as numbers, for callers that lend arrays. Assumes nothing.
use mathlib.Core.Path.{◌≡◌, refl}
use Rattle.tables.specs.promises.Laying.{room}
use Rattle.tables.specs.Table.{width, constraint_columns, supply_columns, schedules_columns, curves_columns, parents_columns}
use Rattle.tables.specs.declared.files.File.TheVariants.{Constraint, Supply, Schedules, Curves, Parents}

pub constraint-room : room Constraint ≡ 3
unfolding room width constraint_columns
constraint-room = refl

pub supply-room : room Supply ≡ 1280
unfolding room width supply_columns
supply-room = refl

pub schedules-room : room Schedules ≡ 9216
unfolding room width schedules_columns
schedules-room = refl

pub curves-room : room Curves ≡ 20480
unfolding room width curves_columns
curves-room = refl

pub parents-room : room Parents ≡ 128
unfolding room width parents_columns
parents-room = refl
