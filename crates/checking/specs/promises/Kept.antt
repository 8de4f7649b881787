-- What holds of files that the check accepts: their rows within the ranges and as many as permitted, and every rule
-- between rows kept. Assumes nothing.
use Rattle.std.specs.Prelude.{◌≤◌, ◌≡◌, length, None}
use Rattle.base.specs.Search.{All}
use Rattle.tables.specs.promises.Ranges.{PermittedConstraint, PermittedSupply, PermittedSchedule, PermittedPoint, PermittedParent}
use Rattle.tables.specs.Reading.{refusal}
use Rattle.tables.specs.Table.{table}
use Rattle.tables.specs.declared.files.File.TheVariants.{Constraint, Supply, Schedules, Curves, Parents}
use Rattle.checking.specs.Files.{Files, constraint_of, supply_of, schedules_of, or_header, curves_of, parents_of}
use Rattle.affiliates.specs.Affiliates.{given_twice, ringed}
use Rattle.curves.specs.Curves.{stray_point, disordered, ends_low}
use Rattle.schedules.specs.Schedules.{schedules_at_odds, not_in_supply, unscheduled}
use Rattle.schedules.specs.Runs.{lacking}
use Rattle.supply.specs.Supply.{most_units, most_suppliers, units, suppliers, over_limit, supply_at_odds}

pub record Kept (f : Files) : Type 0 where
  -- 1, 2, 4 and 3
  pub constraint-read : refusal Constraint f.constraint ≡ None
  pub supply-read : refusal Supply f.supply ≡ None
  pub schedules-read : refusal Schedules f.schedules ≡ None
  pub curves-read : refusal Curves (or_header Curves f.curves) ≡ None
  pub parents-read : refusal Parents (or_header Parents f.parents) ≡ None
  pub constraint-permitted : PermittedConstraint (constraint_of f.constraint)
  pub supply-permitted : All PermittedSupply (supply_of f.supply)
  pub schedules-permitted : All PermittedSchedule (schedules_of f.schedules)
  pub curves-permitted : All PermittedPoint (curves_of f.curves)
  pub parents-permitted : All PermittedParent (parents_of f.parents)
  pub supply-few : length (supply_of f.supply) ≤ (table Supply).most_rows
  pub schedules-few : length (schedules_of f.schedules) ≤ (table Schedules).most_rows
  -- 5
  pub within-limits : over_limit (supply_of f.supply) ≡ None
  pub units-few : length (units (supply_of f.supply)) ≤ most_units
  pub suppliers-few : length (suppliers (supply_of f.supply)) ≤ most_suppliers
  -- 6
  pub supply-agrees : supply_at_odds (supply_of f.supply) ≡ None
  pub schedules-agree : schedules_at_odds (schedules_of f.schedules) ≡ None
  -- 7
  pub known : not_in_supply (units (supply_of f.supply)) (schedules_of f.schedules) ≡ None
  -- 32, 33, 34
  pub points-placed : stray_point (schedules_of f.schedules) (curves_of f.curves) ≡ None
  pub points-ordered : disordered (curves_of f.curves) ≡ None
  pub curves-reach : ends_low (schedules_of f.schedules) (curves_of f.curves) ≡ None
  -- 35, 36
  pub given-once : given_twice (parents_of f.parents) ≡ None
  pub unringed : ringed (parents_of f.parents) ≡ None
  -- 8
  pub scheduled : unscheduled (units (supply_of f.supply)) (schedules_of f.schedules) ≡ None
  -- 9
  pub whole : lacking (constraint_of f.constraint).hour (units (supply_of f.supply)) (schedules_of f.schedules) ≡ None
