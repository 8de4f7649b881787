-- Demand 3 on one row of the answer: the row that a study decides for a unit is right, and nothing else is. Assumes nothing.
use Rattle.std.specs.Prelude.{None}
use Prim.Native.Nat.{ℕ}
use mathlib.Core.Path.{◌≡◌, refl}
use mathlib.Core.List.{List, Memᴰ as Among}
use native.Mathlib.Omega.{arith}
use Rattle.tables.specs.Rows.{SupplyRow, ScheduleRow}
use Rattle.tables.specs.declared.answer.AnswerRow.{AnswerRow}
use Rattle.tables.specs.declared.constraint.ConstraintRow.{ConstraintRow}
use Rattle.checking.specs.Files.{Files, constraint_of, supply_of, scheduled_of, groups_of}
use Rattle.supply.specs.Supply.{units, supply_at_odds}
use Rattle.market.specs.Parties.{party}
use Rattle.market.specs.Removals.{PartyOf}
use Rattle.outcome.specs.Day.{RunningUnit, DayView}
use Rattle.outcome.specs.Decision.{unit_row, chosen_or, choice_of, decided_row}
use Rattle.outcome.specs.Right.{RightRow, RightOf}
use Rattle.outcome.specs.Study.{decision_refusal}
use Rattle.outcome.proofs.ScheduleRight.{schedule-right, shown_by, schedule-only}
use Rattle.outcome.proofs.RowsToBytes.{study_row}
use Rattle.outcome.proofs.Sound.{Sound, sound, some-need, files-kept, groups-units}
use Rattle.outcome.proofs.TestRight.{test-right, test-only}
use Rattle.outcome.proofs.UnitSupplier.{unit_row_lem, unit-supplier}

module _
    (c : ConstraintRow) (supply : List SupplyRow) (scheduled : List ScheduleRow) (running : List RunningUnit)
    (s : Sound c supply scheduled running) (ungrouped : List SupplyRow) (agrees : supply_at_odds ungrouped ≡ None)
    (same : units supply ≡ units ungrouped)
  where
    -- the party of a unit's rows
    its-party : (u : ℕ) → Among u (units supply) → PartyOf supply (party (unit_row supply u))
    its-party u m = record { row = unit_row supply u; a-row = (unit_row_lem supply u m).a-row; its-party = refl }

    right : (u : ℕ) → Among u (units ungrouped) → RightRow c supply scheduled running ungrouped (decided_row c supply scheduled running ungrouped u)
    unfolding decided_row party
    right u listed =
        let m : Among u (units supply) = rw same listed in
        record {
          supplier = λ w i. omega (arith, unit-supplier ungrouped agrees u listed w i);
          tested = λ w i.
              rw (← unit-supplier supply s.supply-agrees u m w i)
              (test-right c supply s.constraint.some-cutoff (some-need s) (party (unit_row supply u)) (its-party u m));
          schedule = schedule-right c supply scheduled running s ungrouped u m;
        }

    only :
        (r : AnswerRow) → Among r.unit (units ungrouped) → RightRow c supply scheduled running ungrouped r →
        r ≡ decided_row c supply scheduled running ungrouped r.unit
    unfolding decided_row
    only r listed t =
        let u = r.unit in
        let m : Among u (units supply) = rw same listed in
        let w = unit_row supply u in
        let tested = t.tested w (unit_row_lem supply u m) in
        let (verdict, left) = test-only c supply s.constraint.some-cutoff (some-need s) (party w) (its-party u m) tested in
        let chosen : chosen_or (choice_of c supply scheduled running u) ≡ shown_by c supply scheduled running s r t.schedule =
        schedule-only c supply scheduled running s r verdict t.schedule in
        let supplier : r.supplier ≡ (unit_row ungrouped u).supplier = omega (arith, t.supplier (unit_row ungrouped u) (unit_row_lem ungrouped u listed)) in
        rw (chosen, ← verdict, ← left, ← supplier, ← t.schedule.kind-shown)

module _ (d : DayView) (f : Files) (e : decision_refusal d f ≡ None) where
  pub row-right : (u : ℕ) → Among u (units (supply_of f.supply)) → RightOf d f (study_row d f u)
  row-right =
      right (constraint_of f.constraint) (groups_of f) (scheduled_of f) d.running (sound d f e)
      (supply_of f.supply) (files-kept d f e).supply-agrees (groups-units d f e)

  pub row-decided :
      (r : AnswerRow) → Among r.unit (units (supply_of f.supply)) → RightOf d f r → r ≡ study_row d f r.unit
  row-decided =
      only (constraint_of f.constraint) (groups_of f) (scheduled_of f) d.running (sound d f e)
      (supply_of f.supply) (files-kept d f e).supply-agrees (groups-units d f e)
