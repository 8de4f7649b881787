-- The numbers that refusals have: none has the number 0, so that a call is accepted exactly where it tells 0; and of a study's only
-- that of a short buffer has the number 10. Assumes nothing.
use Rattle.std.specs.Prelude.{None, Option, Some, option_map}
use Prim.Native.Nat.{ℕ}
use mathlib.Core.Path.{◌≡◌, refl, sym, ◌∙◌}
use mathlib.Core.Logic.{◌≢◌}
use mathlib.Core.Bool.{Bool, true, false, not, or-true}
use mathlib.Core.List.{List, [], ◌∷◌, ◌++◌}
use native.Mathlib.Omega.{arith}
use lib.ListN.{length}
use lib.Dec.{leb, eqb}
use Rattle.base.specs.Rising.{among}
use Rattle.base.specs.Search.{any, first_of, All, all_none, all_more}
use Rattle.base.proofs.Tests.{false-true}
use Rattle.tables.specs.Reading.{rows, misfit, miscount, malformed, irregular, misshapen, refusal}
use Rattle.tables.specs.Refusals.{refused, bare_refusal, unless, told}
use Rattle.tables.specs.declared.files.File.{File}
use Rattle.tables.specs.declared.files.File.TheVariants.{Constraint, Supply, Schedules, Curves, Parents}
use Rattle.tables.specs.declared.files.Refusal.{Refusal}
use Rattle.tables.specs.declared.answer.AnswerRow.{AnswerRow}
use Rattle.checking.specs.Files.{Files, point_refusals, affiliate_refusals, alone_refusals, market_refusals, schedules_refusals, curves_refusals, units_refusals, beside_refusals, check_refusals, constraint_of, supply_of, schedules_of, curves_of, scheduled_of, parents_of, or_header}
use Rattle.outcome.specs.Day.{DayView, day_formed, runs, release_refusal, earlier, would_run, most_running}
use Rattle.outcome.specs.Study.{outcome, too_many_running, short_buffer, rows_refusals, decision_refusals, decision_refusal, study_refusals, study_refusal, studied, study_rows}
use Rattle.outcome.specs.Decision.{of_unit, no_cost_schedule}
use Rattle.outcome.specs.Preview.{previewing, not_supplied, preview_refusals, preview_refusal, previewed}
use Rattle.outcome.specs.Answer.{answer_text}
use Rattle.csv_text.specs.Records.{records}
use Rattle.supply.specs.Supply.{units, over_limit, supply_at_odds}
use Rattle.schedules.specs.Schedules.{schedules_at_odds, not_in_supply, unscheduled}
use Rattle.schedules.specs.Runs.{lacking}
use Rattle.affiliates.specs.Affiliates.{given_twice, ringed}
use Rattle.curves.specs.Curves.{stray_point, disordered, ends_low}

-- nothing is refused, or the refusal has one of some numbers
data Numbered (ns : List ℕ) : Option Refusal → Type 0 where
  nothing : Numbered ns None
  numbered : (r : Refusal) → among r.number ns ≡ true → Numbered ns (Some r)

first-numbered : {ns : List ℕ} {os : List (Option Refusal)} → All (Numbered ns) os → Numbered ns (first_of os)
unfolding first_of
first-numbered all_none = nothing
first-numbered (all_more nothing a) = first-numbered a
first-numbered (all_more (numbered r h) a) = numbered r h

both : {ns : List ℕ} {os ps : List (Option Refusal)} → All (Numbered ns) os → All (Numbered ns) ps → All (Numbered ns) (os ++ ps)
both all_none b = b
both (all_more p a) b = all_more p (both a b)

at_place : {ns : List ℕ} (n : ℕ) (f : File) (o : Option ℕ) → among n ns ≡ true → Numbered ns (option_map (refused n f) o)
at_place n f None h = nothing
at_place n f (Some k) h = numbered (refused n f k) h

bare : {ns : List ℕ} (t : Bool) (n : ℕ) → among n ns ≡ true → Numbered ns (unless t n)
unfolding unless
bare true n h = nothing
bare false n h = numbered (bare_refusal n) h

-- what has one of some numbers has one of more
one_more : {n : ℕ} {ns : List ℕ} {os : List (Option Refusal)} → All (Numbered ns) os → All (Numbered (n ∷ ns)) os
unfolding among
one_more all_none = all_none
one_more (all_more nothing a) = all_more nothing (one_more a)
one_more {n} (all_more (numbered r h) a) = all_more (numbered r (simp h (or-true (eqb r.number n)))) (one_more a)

-- a number that isn't one of them is that of no refusal
not-numbered :
    {ns : List ℕ} {o : Option Refusal} (n : ℕ) → among n ns ≡ false → Numbered ns o → (r : Refusal) → o ≡ Some r → r.number ≢ n
not-numbered n other nothing r e same = let z : ◌≡◌ {A = ℕ} 0 1 = cc in absurd (omega arith)
not-numbered n other (numbered x h) r e same =
    let its : x.number ≡ n = cc in
    false-true (sym other ∙ (rw its at h))

-- the numbers of all refusals of a study but for that of a short buffer, which is 10
abbrev decision_numbers : List ℕ
decision_numbers = 24 ∷ 1 ∷ 2 ∷ 4 ∷ 3 ∷ 5 ∷ 6 ∷ 7 ∷ 32 ∷ 33 ∷ 34 ∷ 35 ∷ 36 ∷ 8 ∷ 9 ∷ 20 ∷ 21 ∷ 22 ∷ []

shape-numbered : (f : File) (s : List ℕ) → Numbered decision_numbers (misshapen f s)
unfolding misshapen among
shape-numbered f s =
    first-numbered
    (all_more (at_place 1 f (irregular s) refl)
    (all_more (at_place 2 f (misfit f (records s)) refl)
    (all_more (at_place 4 f (miscount f (length (rows s))) refl) all_none)))

reading-numbered : (f : File) (s : List ℕ) → Numbered decision_numbers (refusal f s)
unfolding refusal among
reading-numbered f s =
    first-numbered (all_more (shape-numbered f s) (all_more (at_place 3 f (malformed f (rows s)) refl) all_none))

alone-numbered : (f : File) (s : List ℕ) → All (Numbered decision_numbers) (alone_refusals f s)
unfolding alone_refusals affiliate_refusals among
alone-numbered Constraint s = all_more (reading-numbered Constraint s) all_none
alone-numbered Supply s =
    all_more (reading-numbered Supply s)
    (all_more (at_place 5 Supply (over_limit (supply_of s)) refl)
    (all_more (at_place 6 Supply (supply_at_odds (supply_of s)) refl) all_none))
alone-numbered Schedules s =
    all_more (reading-numbered Schedules s)
    (all_more (at_place 6 Schedules (schedules_at_odds (schedules_of s)) refl) all_none)
alone-numbered Curves s = all_more (reading-numbered Curves (or_header Curves s)) all_none
alone-numbered Parents s =
    all_more (reading-numbered Parents (or_header Parents s))
    (all_more (at_place 35 Parents (given_twice (parents_of s)) refl)
    (all_more (at_place 36 Parents (ringed (parents_of s)) refl) all_none))

check-numbered : (f : Files) → All (Numbered decision_numbers) (check_refusals f)
unfolding among check_refusals market_refusals beside_refusals schedules_refusals curves_refusals point_refusals units_refusals
check-numbered f =
    let us = units (supply_of f.supply) in
    let rs = schedules_of f.schedules in
    let vs = curves_of f.curves in
    let hour = (constraint_of f.constraint).hour in
    both
    (both (alone-numbered Constraint f.constraint) (alone-numbered Supply f.supply))
    (both
    (both
    (alone-numbered Schedules f.schedules)
    (all_more (at_place 7 Schedules (not_in_supply us rs) refl) all_none))
    (both
    (both
    (alone-numbered Curves f.curves)
    (all_more (at_place 32 Curves (stray_point rs vs) refl)
    (all_more (at_place 33 Curves (disordered vs) refl)
    (all_more (at_place 34 Curves (ends_low rs vs) refl) all_none))))
    (both
    (alone-numbered Parents f.parents)
    (all_more (at_place 8 Schedules (unscheduled us rs) refl)
    (all_more (at_place 9 Schedules (lacking hour us rs) refl) all_none)))))

decision-numbered : (d : DayView) (f : Files) → All (Numbered decision_numbers) (decision_refusals d f)
unfolding decision_refusals rows_refusals too_many_running among
decision-numbered d f =
    let supply = supply_of f.supply in
    let hour = (constraint_of f.constraint).hour in
    all_more (bare (day_formed d) 24 refl)
    (both (check-numbered f)
    (all_more (bare (not (earlier hour d.hour)) 20 refl)
    (all_more (at_place 21 Schedules (no_cost_schedule hour supply (scheduled_of f) d.running) refl)
    (all_more (bare (leb (would_run (units supply) d.running) most_running) 22 refl) all_none))))

study-numbered : (d : DayView) (f : Files) (room : ℕ) → All (Numbered (10 ∷ decision_numbers)) (study_refusals d f room)
unfolding study_refusals short_buffer among
study-numbered d f room =
    both (one_more (decision-numbered d f)) (all_more (bare (leb (length (answer_text (study_rows d f))) room) 10 refl) all_none)

preview-numbered : (d : DayView) (f : Files) (u : ℕ) → All (Numbered (31 ∷ decision_numbers)) (preview_refusals d f u)
unfolding preview_refusals not_supplied among
preview-numbered d f u =
    both (one_more (decision-numbered d f)) (all_more (bare (any (of_unit u) (supply_of f.supply)) 31 refl) all_none)

-- nothing is refused where 0 is told
none_told : {ns : List ℕ} {o : Option Refusal} → among 0 ns ≡ false → Numbered ns o → (told o).number ≡ 0 → o ≡ None
none_told other nothing e = refl
none_told other (numbered r h) e = false-true (sym other ∙ (rw e at h))

outcome-told :
    (d : DayView) (h : ℕ) (rows : List AnswerRow) (buffer : List ℕ) (o : Option Refusal) → (outcome d h rows buffer o).told ≡ told o
unfolding outcome
outcome-told d h rows buffer None = refl
outcome-told d h rows buffer (Some r) = refl

previewing-told : (row : Option AnswerRow) (o : Option Refusal) → (previewing row o).told ≡ told o
unfolding previewing
previewing-told row None = refl
previewing-told row (Some r) = refl

module _ (d : DayView) (f : Files) where
  -- a study tells its first refusal
  pub study-told : (buffer : List ℕ) → (studied d f buffer).told ≡ told (study_refusal d f (length buffer))
  unfolding studied
  study-told buffer = outcome-told d _ _ buffer _

  pub told-accepted : (buffer : List ℕ) → (studied d f buffer).told.number ≡ 0 → study_refusal d f (length buffer) ≡ None
  unfolding study_refusal among
  told-accepted buffer e =
      none_told refl (first-numbered (study-numbered d f (length buffer))) (rw (study-told buffer) at e)

  -- and so does a preview
  pub preview-told : (u : ℕ) → (previewed d f u).told ≡ told (preview_refusal d f u)
  unfolding previewed
  preview-told u = previewing-told _ _

  pub told-previewed : (u : ℕ) → (previewed d f u).told.number ≡ 0 → preview_refusal d f u ≡ None
  unfolding preview_refusal among
  told-previewed u e = none_told refl (first-numbered (preview-numbered d f u)) (rw (preview-told u) at e)

  -- what deciding refuses has another number than a short buffer
  pub decision-not-10 : (r : Refusal) → decision_refusal d f ≡ Some r → r.number ≢ 10
  unfolding decision_refusal among
  decision-not-10 = not-numbered 10 refl (first-numbered (decision-numbered d f))

pub told-released : (d : DayView) (u : ℕ) → (told (release_refusal d u)).number ≡ 0 → release_refusal d u ≡ None
unfolding release_refusal among
told-released d u e =
    none_told {ns = 24 ∷ 23 ∷ []} refl
    (first-numbered (all_more (bare (day_formed d) 24 refl) (all_more (bare (runs u d.running) 23 refl) all_none)))
    e
