-- The day after a study: what an accepted study makes of a day, said by who runs before and after it. Assumes nothing.
use Rattle.std.specs.Prelude.{None, Some}
use Prim.Native.Nat.{ℕ, ◌≤◌}
use mathlib.Core.Path.{◌≡◌, refl, ◌∙◌, ap}
use mathlib.Core.Logic.{◌⊎◌, inl, inr, ⊎_elim}
use mathlib.Core.Bool.{true, false}
use mathlib.Core.List.{List, [], ◌∷◌, map, Memᴰ as Among}
use lib.Dec.{leb}
use lib.ListN.{length}
use borrow.Author.Tests.{leb-true}
use Rattle.base.specs.Rising.{RisingFrom, among}
use Rattle.base.proofs.Elements.{all_of, mem-map, map-mem}
use Rattle.tables.specs.Rows.{SupplyRow}
use Rattle.tables.specs.declared.answer.AnswerRow.{AnswerRow}
use Rattle.checking.specs.Files.{Files, constraint_of, supply_of}
use Rattle.supply.specs.Supply.{units}
use Rattle.outcome.specs.Day.{RunningUnit, DayView, most_running, unit_in_range, day_formed, would_run, committed}
use Rattle.outcome.specs.Study.{chosen, outcome, too_many_running, study_rows, decision_refusal, studied}
use Rattle.outcome.proofs.DayLaws.{unit, formed, formed-told, order-rising, put-all-in-order, put-all-length, put-all-there, put-all-stays, put-all-only}
use Rattle.outcome.proofs.DayRanges.{hour-in-range}
use Rattle.outcome.proofs.DayRelease.{unless-none}
use Rattle.outcome.proofs.Demand3.{study-right}
use Rattle.outcome.proofs.Numbered.{told-accepted}
use Rattle.outcome.proofs.RefusalOrder.{accepted-deciding}
use Rattle.outcome.proofs.RowRanges.{row-in-range}
use Rattle.outcome.proofs.RowsToBytes.{shown_unit, study-rows, study-rows-units}
use Rattle.outcome.proofs.Sound.{units-rise, day-formed, files-kept, over-limit-kept}

-- Document 01, "The day": what an accepted study makes of a day, by who runs before and after it. Its units are those of the
-- supply file.
pub record Commits (d : DayView) (f : Files) (after : DayView) : Type 0 where
  -- "An accepted study sets the hour"
  pub hour-set : after.hour ≡ Some (constraint_of f.constraint).hour
  -- "and makes each of its units running on the chosen schedule": each has a row of the answer, and runs as that row shows
  pub every-unit :
      (w : SupplyRow) → Among w (supply_of f.supply) → (r : AnswerRow) × Among r (study_rows d f) × (r.unit ≡ w.unit)
  pub studied-run : (r : AnswerRow) → Among r (study_rows d f) → Among (chosen r) after.running
  -- "every other running unit stays as it was"
  pub others-stay :
      (x : RunningUnit) → Among x d.running → among x.unit (units (supply_of f.supply)) ≡ false →
      Among x after.running
  -- and nobody else runs: whoever does runs as a row shows, or ran before and is none of the study's units
  pub nobody-else :
      (x : RunningUnit) → Among x after.running →
      ((r : AnswerRow) × Among r (study_rows d f) × (x ≡ chosen r))
      ⊎ (Among x d.running × (among x.unit (units (supply_of f.supply)) ≡ false))
  -- not "a day with more than 64 units, units not strictly rising, or a number outside its column's range"
  pub well-formed : day_formed after ≡ true

-- what rows have running are their own units
pub chosen-units : (rows : List AnswerRow) → map unit (map chosen rows) ≡ map shown_unit rows
unfolding chosen
chosen-units [] = refl
chosen-units (r ∷ rows) = ap (λ (us : List ℕ). r.unit ∷ us) (chosen-units rows)

module _ (d : DayView) (f : Files) (ok : decision_refusal d f ≡ None) where
  all-run : map unit (map chosen (study_rows d f)) ≡ units (supply_of f.supply)
  all-run = chosen-units (study_rows d f) ∙ rw (study-rows d f) (study-rows-units d f (units (supply_of f.supply)))

  commits : Commits d f (committed (constraint_of f.constraint).hour (map chosen (study_rows d f)) d)
  unfolding committed too_many_running
  commits =
      let known = formed d (day-formed d f ok) in
      let ran = order-rising known.ordered in
      let us = units (supply_of f.supply) in
      let cs = map chosen (study_rows d f) in
      let rising : RisingFrom 0 (map unit cs) = rw all-run (units-rise d f ok) in
      record {
        hour-set = refl;
        every-unit = (study-right d f ok).0.every-unit;
        studied-run = λ r m. put-all-there d.running (mem-map chosen m) rising;
        others-stay = λ x m e. put-all-stays cs m (rw all-run e);
        nobody-else = λ x m.
            ⊎_elim
            (λ n. inl (map-mem chosen (study_rows d f) n))
            (λ n. inr (n.0, rw all-run at n.1))
            (put-all-only cs d.running rising ran m);
        well-formed =
            formed-told _
            (record {
              few =
                  rw (put-all-length cs d.running rising ran, all-run)
                  (leb-true (would_run us d.running) most_running
                  (unless-none (leb (would_run us d.running) most_running) 22 (over-limit-kept d f ok)));
              timely = hour-in-range _ (files-kept d f ok).constraint-permitted.hour;
              ordered = put-all-in-order cs (all_of cs in-range) known.ordered;
            });
      }
    where
      in-range : (c : RunningUnit) → Among c (map chosen (study_rows d f)) → unit_in_range c ≡ true
      in-range c m =
          let (r, n, e) = map-mem chosen (study_rows d f) m in
          rw e (row-in-range d f ok r n)

-- by the outcome
module _ (d : DayView) (f : Files) (old : List ℕ) where
  pub study-commits : (studied d f old).told.number ≡ 0 → Commits d f (studied d f old).day
  unfolding studied outcome
  study-commits e =
      let ok = told-accepted d f old e in
      rw ok (commits d f (accepted-deciding d f (length old) ok))

  -- no more run than a day has places
  pub studied-few : (studied d f old).told.number ≡ 0 → length (studied d f old).day.running ≤ most_running
  studied-few e = (formed (studied d f old).day (study-commits e).well-formed).few
