-- Laws of deciding: one for each way through the code, from what its steps answer to what was decided. Assumes nothing.
use Rattle.std.specs.Prelude.{Err, Ok, None, Option, Result, Some, option_map}
use Prim.Native.Nat.{ℕ, ◌*◌, ◌≤◌, ◌<◌}
use mathlib.Core.Path.{◌≡◌, refl, sym, ◌∙◌, ap, subst}
use mathlib.Core.Bool.{Bool, true, false, not}
use mathlib.Core.List.{List, [], ◌∷◌, map, append_assoc}
use native.Mathlib.Omega.{arith}
use lib.Dec.{leb}
use lib.ListN.{length, take}
use borrow.Author.Tests.{le-leb, lt-leb}
use Rattle.base.specs.Search.{first_of}
use Rattle.tables.specs.Rows.{SupplyRow, ScheduleRow}
use Rattle.tables.specs.declared.answer.AnswerRow.{AnswerRow}
use Rattle.tables.specs.declared.constraint.ConstraintRow.{ConstraintRow}
use Rattle.tables.specs.declared.files.File.TheVariants.{Schedules}
use Rattle.tables.specs.declared.files.Refusal.{Refusal}
use Rattle.tables.specs.Refusals.{refused, bare_refusal, unless}
use Rattle.cells.specs.promises.Views.{answer_rows, answer_width}
use Rattle.supply.specs.Supply.{units}
use Rattle.checking.specs.Files.{Files, constraint_of, supply_of, scheduled_of, groups_of, market_refusals, beside_refusals, check_refusals, check_refusal}
use Rattle.checking.specs.promises.Curves.{priced_rows}
use Rattle.base.proofs.FirstLaws.{first-of-one, first-of-here, first-of-later, first-of-part, first-of-rest}
use Rattle.decision.specs.declared.deciding.NoCostSchedule.{NoCostSchedule}
use Rattle.decision.specs.promises.Deciding.{DecidesRows}
use Rattle.decision.specs.promises.Units.{UnitsOf}
use Rattle.outcome.proofs.StudyLetters.{decided-lettered}
use Rattle.outcome.specs.Day.{RunningUnit, most_running, day_formed, earlier, would_run}
use Rattle.outcome.specs.Decision.{decided, no_cost_schedule}
use Rattle.outcome.specs.Study.{too_many_running, rows_refusals, study_rows, decision_refusals, decision_refusal}
use Rattle.outcome.proofs.RowsToBytes.{rows-units}
use Rattle.engine.specs.promises.Deciding.{RowsReady, Laid, Decides, DecidesFromRows, DecidesMarket, DecidesGroups, DecidesStudy}
use Rattle.engine.specs.View.{view_of}
use Rattle.engine.specs.declared.day.Day.{Day}
use Rattle.engine.specs.declared.deciding.DecidedRows.{DecidedRows}
use Rattle.tables.proofs.RefusalLaws.{unless-broken, unless-kept}

module _ (o : Option Refusal) (hour : ℕ) (rows : List AnswerRow) (running : List RunningUnit) (new : List ℕ) where
  pub decides-refused : (e : Refusal) (r : Result DecidedRows Refusal) → o ≡ Some e → r ≡ Err e → Decides o hour rows running new r
  decides-refused e r is g =
      record {
        refuses = λ x f. cc;
        decides = λ found f. let z : ◌≡◌ {A = ℕ} 0 1 = cc in absurd (omega arith);
      }

  pub decides-laid :
      (h k : ℕ) (r : Result DecidedRows Refusal) → r ≡ Ok (record { hour = h; count = k }) → Laid o hour rows running new h k →
      Decides o hour rows running new r
  decides-laid h k r g laid =
      record {
        refuses = λ x f. let z : ◌≡◌ {A = ℕ} 0 1 = cc in absurd (omega arith);
        decides =
            λ found f.
            let same : ◌≡◌ {A = DecidedRows} (record { hour = h; count = k }) found = cc in
            subst (λ (d : DecidedRows). Laid o hour rows running new d.hour d.count) same laid;
      }

-- as deciding answered
module _
    (c : ConstraintRow) (rows : List SupplyRow) (scheduled : List ScheduleRow) (running : List RunningUnit) (k : ℕ) (new : List ℕ) {r : Result (Unit {0}) NoCostSchedule}
    (decides : DecidesRows c rows scheduled running k new r)
  where
    pub was-without-cost : {u : NoCostSchedule} → r ≡ Err u → no_cost_schedule c.hour rows scheduled running ≡ Some u.unit
    was-without-cost {u} e = go (no_cost_schedule c.hour rows scheduled running) refl
      where
        go : (o : Option ℕ) → no_cost_schedule c.hour rows scheduled running ≡ o → no_cost_schedule c.hour rows scheduled running ≡ Some u.unit
        go None f = let z : ◌≡◌ {A = ℕ} 0 1 = cc (decides.answers, e, f) in absurd (omega arith)
        go (Some x) f =
            let same : ◌≡◌ {A = NoCostSchedule} (record { unit = x }) u = cc (decides.answers, e, f) in
            f ∙ ap (λ (n : NoCostSchedule). Some n.unit) same

    pub was-decided : r ≡ Ok tt → no_cost_schedule c.hour rows scheduled running ≡ None
    was-decided e = go (no_cost_schedule c.hour rows scheduled running) refl
      where
        go : (o : Option ℕ) → no_cost_schedule c.hour rows scheduled running ≡ o → no_cost_schedule c.hour rows scheduled running ≡ None
        go None f = f
        go (Some x) f = let z : ◌≡◌ {A = ℕ} 0 1 = cc (decides.answers, e, f) in absurd (omega arith)

    pub rows-ready :
        (us : List ℕ) → UnitsOf k rows us → k * answer_width ≤ length new → r ≡ Ok tt → (w : ℕ) → w ≡ would_run (take k us) running →
        w ≤ most_running → RowsReady running k new
    unfolding decided
    rows-ready us of-supply room e w counted few =
        let by-unit : map (λ (a : AnswerRow). a.unit) (answer_rows k new) ≡ units rows = rw (decides.rows e) (rows-units c rows scheduled running rows (units rows)) in
        record {
          few = of-supply.few;
          there = room;
          lettered = rw (decides.rows e) (decided-lettered c rows scheduled running rows);
          rising = rw by-unit of-supply.rising;
          fit = rw (by-unit, ← of-supply.listed) (omega (arith, counted));
        }

-- the rows of the files: 20, 21, 22
module _ (day : Day) (c : ConstraintRow) (supply : List SupplyRow) (scheduled : List ScheduleRow) (new : List ℕ) (r : Result DecidedRows Refusal) where
  pub rows-earlier :
      {t : Bool} → t ≡ earlier c.hour (view_of day).hour → t ≡ true → r ≡ Err (bare_refusal 20) → DecidesFromRows day c supply scheduled new r
  unfolding rows_refusals
  rows-earlier e f g =
      decides-refused _ _ _ _ new (bare_refusal 20) r
      (first-of-here _ _ _ (unless-broken (not (earlier c.hour (view_of day).hour)) 20 (ap not (sym e ∙ f))))
      g

  module _ {t : Bool} (e : t ≡ earlier c.hour (view_of day).hour) (timely : t ≡ false) where
    in-time : unless (not (earlier c.hour (view_of day).hour)) 20 ≡ None
    in-time = unless-kept (not (earlier c.hour (view_of day).hour)) 20 (ap not (sym e ∙ timely))

    pub rows-without-cost :
        (u : ℕ) → no_cost_schedule c.hour supply scheduled (view_of day).running ≡ Some u → r ≡ Err (refused 21 Schedules u) →
        DecidesFromRows day c supply scheduled new r
    unfolding rows_refusals
    rows-without-cost u f g =
        decides-refused _ _ _ _ new (refused 21 Schedules u) r
        (first-of-later _ _ in-time ∙ first-of-here _ _ _ (ap (option_map (refused 21 Schedules)) f))
        g

    module _ (on-cost : no_cost_schedule c.hour supply scheduled (view_of day).running ≡ None) (w : ℕ) (counted : w ≡ would_run (units supply) (view_of day).running) where
      over-limit-left : first_of (rows_refusals (view_of day) c supply scheduled) ≡ too_many_running (view_of day) (units supply)
      unfolding rows_refusals
      over-limit-left =
          first-of-later _ _ in-time ∙ first-of-later _ _ (ap (option_map (refused 21 Schedules)) on-cost)
          ∙ first-of-one (too_many_running (view_of day) (units supply))

      pub rows-over-limit : most_running < w → r ≡ Err (bare_refusal 22) → DecidesFromRows day c supply scheduled new r
      unfolding too_many_running
      rows-over-limit h g =
          decides-refused _ _ _ _ new (bare_refusal 22) r
          (over-limit-left
          ∙ unless-broken (leb (would_run (units supply) (view_of day).running) most_running) 22 (lt-leb (would_run (units supply) (view_of day).running) most_running (omega (arith, counted))))
          g

      pub rows-laid :
          w ≤ most_running → (k : ℕ) → r ≡ Ok (record { hour = c.hour; count = k }) → answer_rows k new ≡ decided c supply scheduled (view_of day).running supply →
          RowsReady (view_of day).running k new → DecidesFromRows day c supply scheduled new r
      unfolding too_many_running
      rows-laid h k g laid ready =
          decides-laid _ _ _ _ new c.hour k r g
          (record {
            accepted =
                over-limit-left
                ∙ unless-kept (leb (would_run (units supply) (view_of day).running) most_running) 22 (le-leb (would_run (units supply) (view_of day).running) most_running (omega (arith, counted)));
            at-hour = refl;
            laid = laid;
            ready = ready;
          })

-- schedules, for a market that passed
module _
    (day : Day) (c : ConstraintRow) (supply : List SupplyRow) (waiting : Option Refusal) (h k new : List ℕ) (r : Result DecidedRows Refusal)
  where
    pub schedules-refused :
        (e : Refusal) → first_of (beside_refusals (waiting ∷ []) c.hour (units supply) h k) ≡ Some e → r ≡ Err e →
        DecidesMarket day c supply waiting h k new r
    schedules-refused e is g =
        decides-refused _ _ _ _ new e r (first-of-part (beside_refusals (waiting ∷ []) c.hour (units supply) h k) _ e is) g

    pub schedules-decided :
        first_of (beside_refusals (waiting ∷ []) c.hour (units supply) h k) ≡ None → (rows : List ScheduleRow) → rows ≡ priced_rows h k →
        DecidesFromRows day c supply rows new r → DecidesMarket day c supply waiting h k new r
    schedules-decided ok rows is decides =
        rw (first-of-rest (beside_refusals (waiting ∷ []) c.hour (units supply) h k) (rows_refusals (view_of day) c supply (priced_rows h k)) ok)
        (rw is at decides)

-- all files
module _ (day : Day) (f : Files) (new : List ℕ) (r : Result DecidedRows Refusal) where
  pub ill-formed : day_formed (view_of day) ≡ false → r ≡ Err (bare_refusal 24) → DecidesStudy day f new r
  unfolding decision_refusal decision_refusals
  ill-formed e g = decides-refused _ _ _ _ new (bare_refusal 24) r (first-of-here _ _ _ (unless-broken (day_formed (view_of day)) 24 e)) g

  module _ (formed : day_formed (view_of day) ≡ true) where
    pub market-refused : (e : Refusal) → check_refusal f ≡ Some e → r ≡ Err e → DecidesStudy day f new r
    unfolding decision_refusal decision_refusals check_refusal
    market-refused e is g =
        decides-refused _ _ _ _ new e r
        (first-of-later _ _ (unless-kept (day_formed (view_of day)) 24 formed) ∙ first-of-part (check_refusals f) _ e is)
        g

    pub market-decided :
        first_of (market_refusals f.constraint f.supply) ≡ None → (c : ConstraintRow) → c ≡ constraint_of f.constraint →
        (supply : List SupplyRow) → supply ≡ supply_of f.supply → DecidesGroups day c supply f.schedules f.curves f.parents new r →
        DecidesStudy day f new r
    unfolding decision_refusal decision_refusals check_refusals study_rows scheduled_of groups_of
    market-decided ok c constraint supply is decides =
        rw (
          first-of-later _ _ (unless-kept (day_formed (view_of day)) 24 formed),
          append_assoc (market_refusals f.constraint f.supply),
          first-of-rest (market_refusals f.constraint f.supply) _ ok,
        )
        (rw (constraint, is) at decides)
