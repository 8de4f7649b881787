-- Demand 3 on a unit's schedule, kind and cost: what is chosen of the unit's own schedule rows is right, and nothing else is.
-- Assumes nothing.
use Rattle.std.specs.Prelude.{Option, Some}
use Prim.Native.Nat.{ℕ}
use mathlib.Core.Path.{◌≡◌, refl, ap}
use mathlib.Core.Logic.{◌↔◌}
use mathlib.Core.Bool.{true}
use mathlib.Core.List.{List, Memᴰ as Among}
use borrow.Author.Tests.{not-false}
use Rattle.tables.specs.Rows.{SupplyRow, ScheduleRow}
use Rattle.tables.specs.declared.answer.AnswerRow.{AnswerRow}
use Rattle.tables.specs.declared.constraint.ConstraintRow.{ConstraintRow}
use Rattle.tables.specs.declared.files.Kind.{Kind}
use Rattle.schedules.specs.Schedules.{own}
use Rattle.supply.specs.Supply.{units}
use Rattle.market.specs.Parties.{party}
use Rattle.choice.specs.Right.{RightChoice}
use Rattle.choice.specs.Schedules.{schedules, on_cost, has_any}
use Rattle.choice.specs.declared.choices.Choice.{Choice}
use Rattle.choice.specs.declared.kinds.Kinds.TheVariants.{OnlyC}
use Rattle.choice.proofs.ChoiceRight.{choice-right, choice-exists}
use Rattle.choice.proofs.SomeEligible.{some-eligible}
use Rattle.outcome.specs.Day.{RunningUnit, kind_running}
use Rattle.outcome.specs.Decision.{unit_row, verdict_of, exposed_unit, chosen_or, choice_of, decided_row, lacks_cost, no_cost_schedule}
use Rattle.outcome.specs.Right.{RightSchedule}
use Rattle.outcome.proofs.ExposedRight.{exposed-right}
use Rattle.outcome.proofs.OwnRows.{one-row-each, has-schedule}
use Rattle.base.proofs.SearchLaws.{same_test, none_found}
use Rattle.pivotal.specs.Test.{verdict_letter}
use Rattle.outcome.proofs.Sound.{Sound, some-need}

module _
    (c : ConstraintRow) (supply : List SupplyRow) (scheduled : List ScheduleRow) (running : List RunningUnit)
    (s : Sound c supply scheduled running)
  where
    abbrev RightOf : ℕ → Choice → Type 0
    RightOf u x = RightChoice (kind_running u running) (exposed_unit c supply u) c.hour (own u scheduled) x

    -- what is chosen is just what is right
    chosen-exactly : (u : ℕ) (x : Choice) → (choice_of c supply scheduled running u ≡ Some x) ↔ RightOf u x
    unfolding choice_of
    chosen-exactly u x =
        choice-right (kind_running u running) (exposed_unit c supply u) c.hour (own u scheduled)
        (one-row-each scheduled s.schedules-agree c.hour u)
        x

    module _ (ungrouped : List SupplyRow) (u : ℕ) (m : Among u (units supply)) where
      abbrev day : Option Kind
      day = kind_running u running

      -- a unit that runs on cost has a C schedule
      has-cost : on_cost day ≡ true → has_any OnlyC (schedules c.hour (own u scheduled)) ≡ true
      unfolding no_cost_schedule lacks_cost
      has-cost e = not-false _ (simp e at (none_found (lacks_cost c.hour scheduled running) s.each-cost m))

      -- so something is chosen
      is-chosen : (x : Choice) × (choice_of c supply scheduled running u ≡ Some x)
      unfolding choice_of
      is-chosen =
          let hour = s.constraint.hour in
          let (row, n) = has-schedule c.hour (units supply) scheduled u m hour s.schedules s.each-scheduled s.whole in
          (choice-exists day (exposed_unit c supply u) c.hour (own u scheduled)).1
          (some-eligible day (exposed_unit c supply u) c.hour (own u scheduled) row n has-cost)

      pub schedule-right : RightSchedule c supply scheduled running (decided_row c supply scheduled running ungrouped u)
      unfolding decided_row
      schedule-right =
          let (x, e) = is-chosen in
          record {
            exposed = exposed_unit c supply u;
            exposed-exactly = exposed-right c supply s.constraint.some-cutoff (some-need s) u;
            kind = (chosen_or (choice_of c supply scheduled running u)).kind;
            kind-shown = refl;
            right = rw e ((chosen-exactly u x).0 e);
          }

    -- the schedule, kind and cost of a row of the answer
    abbrev pub shown_by : (r : AnswerRow) → RightSchedule c supply scheduled running r → Choice
    shown_by r t = record { schedule = r.schedule; kind = t.kind; cost = r.cost }

    -- in a row with the unit's verdict, no other schedule, kind and cost are right
    module _
        (r : AnswerRow) (shown : r.verdict ≡ verdict_letter (verdict_of c supply (party (unit_row supply r.unit))))
        (t : RightSchedule c supply scheduled running r)
      where
        same-exposed : t.exposed ≡ exposed_unit c supply r.unit
        same-exposed =
            let (says, tests) = exposed-right c supply s.constraint.some-cutoff (some-need s) r.unit in
            same_test t.exposed (exposed_unit c supply r.unit)
            (λ e. tests (rw shown at (t.exposed-exactly.0 e)))
            (λ e. t.exposed-exactly.1 (rw shown (says e)))

        pub schedule-only : chosen_or (choice_of c supply scheduled running r.unit) ≡ shown_by r t
        schedule-only = ap chosen_or ((chosen-exactly r.unit (shown_by r t)).1 (rw same-exposed at t.right))
