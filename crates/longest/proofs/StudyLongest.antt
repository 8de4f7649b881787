-- Document 01: "Its buffer holds the longest answer." Where no refusal but for 10 stands against a study, the fields of its
-- rows are no wider than the longest answer has them, so its answer file is no longer. It goes by what demand 3 says of a row
-- and by the ranges of the files' rows. Assumes nothing.
use Rattle.std.specs.Prelude.{None}
use Prim.Native.Nat.{ℕ, ◌≤◌, ◌<◌}
use mathlib.Core.Path.{◌≡◌, ap}
use mathlib.Core.Logic.{◌≢◌, ⊎_elim}
use mathlib.Core.List.{List, Memᴰ as Among}
use native.Mathlib.Omega.{arith}
use lib.ListN.{length, length-map}
use Rattle.base.specs.Search.{All}
use Rattle.base.proofs.Elements.{all-mem}
use Rattle.base.proofs.Tests.{eq-or-ne, lt-or-ge}
use Rattle.tables.specs.promises.Ranges.{PermittedSupply, PermittedSchedule}
use Rattle.tables.specs.Rows.{SupplyRow, ScheduleRow}
use Rattle.tables.specs.declared.answer.AnswerRow.{AnswerRow}
use Rattle.tables.specs.declared.constraint.ConstraintRow.{ConstraintRow}
use Rattle.tables.specs.Table.{table}
use Rattle.tables.specs.declared.files.File.TheVariants.{Supply}
use Rattle.checking.specs.Files.{Files, constraint_of, supply_of, parents_of, groups_of}
use Rattle.affiliates.specs.Affiliates.{head, in_place, grouped}
use Rattle.schedules.specs.Schedules.{schedules_at_odds}
use Rattle.supply.specs.Supply.{units}
use Rattle.market.specs.Clearing.{eligible_supply, need_of}
use Rattle.market.specs.Removals.{remaining, relevant_without}
use Rattle.offers.proofs.RangeLaws.{supply-of-small}
use Rattle.choice.specs.Choosing.{shown}
use Rattle.choice.specs.Schedules.{is_running as runs}
use Rattle.choice.specs.declared.choices.Choice.{Choice}
use Rattle.outcome.specs.Day.{RunningUnit, DayView, kind_running}
use Rattle.outcome.specs.Decision.{unit_row, cleared}
use Rattle.outcome.specs.Right.{RightTest, RightSchedule, RightOf}
use Rattle.outcome.specs.Study.{study_rows, answer_file, decision_refusal}
use Rattle.outcome.proofs.RowLaws.{row-right}
use Rattle.outcome.proofs.RowRanges.{row-permitted}
use Rattle.outcome.proofs.RowsToBytes.{study_row, study-row-unit}
use Rattle.outcome.proofs.Sound.{files-kept, groups-units, groups-permitted, sound, some-need}
use Rattle.outcome.proofs.StudyRows.{study-all, study-count}
use Rattle.outcome.proofs.TestRight.{cleared-clears}
use Rattle.outcome.proofs.UnitSupplier.{unit_row_lem}
use Rattle.pivotal.specs.Test.{U, verdict_letter}
use Rattle.longest.specs.Longest.{most_left, most_cost, widest_row, longest}
use Rattle.longest.proofs.LongestLaws.{Ranged, answer-most}
use Rattle.longest.proofs.RunCosts.{cost-small}

-- what is left is what some removal leaves, and that is at most what all rows supply
module _
    (c : ConstraintRow) (supply : List SupplyRow) (positive : 0 < c.cutoff) (needs-some : 0 < need_of c.relief)
    (few : length supply ≤ (table Supply).most_rows) (a : All PermittedSupply supply)
  where
    remaining-small : (q : SupplyRow) (taken : List ℕ) → remaining c.cutoff q taken supply ≤ most_left
    unfolding remaining
    remaining-small q taken =
        omega (arith, supply-of-small (relevant_without c.cutoff q taken) supply (λ r m. all-mem a m))

    left-small : {k v l : ℕ} → RightTest c supply k v l → l ≤ most_left
    left-small {k} {v} {l} t = ⊎_elim untested tested (eq-or-ne v (verdict_letter U))
      where
        untested : v ≡ verdict_letter U → l ≤ most_left
        untested e = omega (arith, t.nothing_left e)

        tested : v ≢ verdict_letter U → l ≤ most_left
        tested n =
            let enough : need_of c.relief ≤ eligible_supply c.cutoff supply =
            ⊎_elim (λ h. absurd (n (t.shows-U.1 h))) (λ h. h) (lt-or-ge (eligible_supply c.cutoff supply) (need_of c.relief)) in
            let (taken, r, e) = t.reached n (cleared c supply) (cleared-clears c supply positive needs-some enough) in
            omega (arith, remaining-small (cleared c supply) taken)

-- the schedule that a right row shows has a number within its range, and costs no more than a whole day
module _
    {c : ConstraintRow} {supply : List SupplyRow} {scheduled : List ScheduleRow} {running : List RunningUnit}
    (a : All PermittedSchedule scheduled) (agree : schedules_at_odds scheduled ≡ None)
    {r : AnswerRow} (t : RightSchedule c supply scheduled running r)
  where
    schedule-small : r.schedule ≤ widest_row.schedule
    unfolding shown
    schedule-small = omega (arith, ap (λ (x : Choice). x.schedule) t.right.shows, (row-permitted a t).schedule)

    shown-cost-small : r.cost ≤ most_cost
    unfolding shown
    shown-cost-small =
        omega (
          arith,
          ap (λ (x : Choice). x.cost) t.right.shows,
          cost-small c.hour r.unit t.right.row scheduled a agree (row-permitted a t) (runs (kind_running r.unit running)),
        )

module _ (d : DayView) (f : Files) (e : decision_refusal d f ≡ None) where
  groups-most : length (groups_of f) ≤ (table Supply).most_rows
  unfolding groups_of grouped
  groups-most = rw (length-map (supply_of f.supply) (in_place (head (parents_of f.parents)))) (files-kept d f e).supply-few

  right-ranged : (r : AnswerRow) → Among r.unit (units (supply_of f.supply)) → RightOf d f r → Ranged r
  right-ranged r m t =
      let k = files-kept d f e in
      let w = unit_row (supply_of f.supply) r.unit in
      let i = unit_row_lem (supply_of f.supply) r.unit m in
      let p = all-mem k.supply-permitted i.a-row in
      let positive = k.constraint-permitted.some-cutoff in
      let g : Among r.unit (units (groups_of f)) = rw (groups-units d f e) m in
      record {
        unit = omega (arith, i.its-unit, p.unit);
        supplier = omega (arith, t.supplier w i, p.supplier);
        left =
            left-small (constraint_of f.constraint) (groups_of f) positive (some-need (sound d f e)) groups-most (groups-permitted d f e)
            (t.tested (unit_row (groups_of f) r.unit) (unit_row_lem (groups_of f) r.unit g));
        schedule = schedule-small (sound d f e).schedules (sound d f e).schedules-agree t.schedule;
        cost = shown-cost-small (sound d f e).schedules (sound d f e).schedules-agree t.schedule;
      }

  study-ranged : All Ranged (study_rows d f)
  study-ranged = study-all d f (λ u m. right-ranged (study_row d f u) (rw (study-row-unit d f u) m) (row-right d f e u m))

  pub study-longest : length (answer_file d f) ≤ longest
  unfolding answer_file
  study-longest = answer-most study-ranged (omega (arith, study-count d f, (files-kept d f e).units-few))
