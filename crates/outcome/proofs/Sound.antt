-- What is known of the day and the rows of a study that isn't refused. Assumes nothing.
use Rattle.std.specs.Prelude.{None}
use Prim.Native.Nat.{◌≤◌, ◌<◌}
use mathlib.Core.Path.{◌≡◌, ◌∙◌}
use mathlib.Core.Bool.{true}
use mathlib.Core.List.{List}
use native.Mathlib.Omega.{arith}
use Rattle.base.specs.Rising.{RisingFrom}
use Rattle.base.specs.Search.{first_of, All, all_none, all_more}
use Rattle.base.proofs.Searches.{first-of-none, option-map-none}
use Rattle.tables.specs.promises.Ranges.{PermittedConstraint, PermittedSupply, PermittedSchedule}
use Rattle.tables.specs.Rows.{SupplyRow, ScheduleRow}
use Rattle.tables.specs.declared.constraint.ConstraintRow.{ConstraintRow}
use Rattle.tables.specs.declared.files.File.TheVariants.{Schedules}
use Rattle.tables.specs.Refusals.{refused, unless}
use Rattle.curves.proofs.PricedLaws.{priced-odds, priced-scheduled, priced-runs, priced-permitted}
use Rattle.checking.specs.Files.{Files, constraint_of, supply_of, schedules_of, curves_of, parents_of, scheduled_of, groups_of, check_refusals, check_refusal}
use Rattle.affiliates.proofs.GroupLaws.{grouped-units, grouped-agree, grouped-permitted}
use Rattle.checking.specs.promises.Kept.{Kept}
use Rattle.schedules.specs.Schedules.{schedules_at_odds, unscheduled}
use Rattle.schedules.specs.Runs.{lacking}
use Rattle.supply.specs.Supply.{units, supply_at_odds}
use Rattle.supply.proofs.UnitLaws.{units-rising}
use Rattle.base.proofs.FirstLaws.{first-of-parts-none}
use Rattle.checking.proofs.KeptLaws.{kept}
use Rattle.market.specs.Clearing.{need_of}
use Rattle.outcome.specs.Day.{RunningUnit, DayView, day_formed}
use Rattle.outcome.specs.Decision.{no_cost_schedule}
use Rattle.outcome.specs.Study.{too_many_running, decision_refusals, decision_refusal, rows_refusals}
use Rattle.outcome.proofs.DayRelease.{unless-none}

pub record Sound
    (c : ConstraintRow) (supply : List SupplyRow) (scheduled : List ScheduleRow) (running : List RunningUnit)
    : Type 0 where
  pub constraint : PermittedConstraint c
  pub schedules : All PermittedSchedule scheduled
  pub supply-agrees : supply_at_odds supply ≡ None
  pub schedules-agree : schedules_at_odds scheduled ≡ None
  pub each-scheduled : unscheduled (units supply) scheduled ≡ None
  pub whole : lacking c.hour (units supply) scheduled ≡ None
  pub each-cost : no_cost_schedule c.hour supply scheduled running ≡ None

pub some-need :
    {c : ConstraintRow} {supply : List SupplyRow} {scheduled : List ScheduleRow} {running : List RunningUnit} →
    Sound c supply scheduled running → 0 < need_of c.relief
unfolding need_of
some-need s = omega (arith, s.constraint.some-relief)

pub some-units : {rs : List SupplyRow} → All PermittedSupply rs → All (λ (r : SupplyRow). 1 ≤ r.unit) rs
some-units all_none = all_none
some-units (all_more p a) = all_more p.some-unit (some-units a)

module _ (d : DayView) (f : Files) (e : decision_refusal d f ≡ None) where
  pub day-formed : day_formed d ≡ true
  unfolding decision_refusal decision_refusals
  day-formed = unless-none (day_formed d) 24 (first-of-none _ _ e).0

  -- the check refuses nothing, and 20, 21 and 22 are kept
  none-refused :
      (check_refusal f ≡ None)
      × (first_of (rows_refusals d (constraint_of f.constraint) (supply_of f.supply) (scheduled_of f)) ≡ None)
  unfolding decision_refusal decision_refusals check_refusal
  none-refused = first-of-parts-none (check_refusals f) _ (first-of-none (unless (day_formed d) 24) _ e).1

  -- the files are such as the check accepts
  pub files-kept : Kept f
  files-kept = kept f none-refused.0

  pub units-rise : RisingFrom 0 (units (supply_of f.supply))
  units-rise = units-rising (some-units files-kept.supply-permitted)

  -- groups have the units of the supply file
  pub groups-units : units (groups_of f) ≡ units (supply_of f.supply)
  unfolding groups_of
  groups-units = grouped-units (parents_of f.parents) (supply_of f.supply)

  pub groups-permitted : All PermittedSupply (groups_of f)
  unfolding groups_of
  groups-permitted = grouped-permitted files-kept.parents-permitted files-kept.supply-permitted

  groups-agree : supply_at_odds (groups_of f) ≡ None
  unfolding groups_of
  groups-agree = grouped-agree (parents_of f.parents) (supply_of f.supply) files-kept.supply-agrees

  cost-kept : no_cost_schedule (constraint_of f.constraint).hour (supply_of f.supply) (scheduled_of f) d.running ≡ None
  unfolding rows_refusals
  cost-kept =
      option-map-none (refused 21 Schedules)
      (no_cost_schedule (constraint_of f.constraint).hour (supply_of f.supply) (scheduled_of f) d.running)
      (first-of-none _ _ (first-of-none _ _ none-refused.1).1).0

  pub over-limit-kept : too_many_running d (units (supply_of f.supply)) ≡ None
  unfolding rows_refusals
  over-limit-kept = (first-of-none _ _ (first-of-none _ _ (first-of-none _ _ none-refused.1).1).1).0

  pub sound : Sound (constraint_of f.constraint) (groups_of f) (scheduled_of f) d.running
  unfolding no_cost_schedule scheduled_of
  sound =
      let points = curves_of f.curves in
      let filed = schedules_of f.schedules in
      record {
        constraint = files-kept.constraint-permitted;
        schedules = priced-permitted files-kept.curves-permitted files-kept.schedules-permitted;
        supply-agrees = groups-agree;
        schedules-agree = priced-odds points filed ∙ files-kept.schedules-agree;
        each-scheduled = rw groups-units (priced-scheduled points (units (supply_of f.supply)) filed ∙ files-kept.scheduled);
        whole = rw groups-units (priced-runs points (constraint_of f.constraint).hour (units (supply_of f.supply)) filed ∙ files-kept.whole);
        each-cost = rw groups-units cost-kept;
      }
