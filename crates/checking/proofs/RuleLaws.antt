-- Laws of rules over schedule rows: the first of the rules beside a market that is broken. Assumes nothing.
use Rattle.std.specs.Prelude.{Err, None, Ok, Option, Result, Some, option_map}
use Prim.Native.Nat.{ℕ}
use mathlib.Core.Path.{◌≡◌, refl, sym, ◌∙◌}
use mathlib.Core.List.{List, [], ◌∷◌}
use native.Mathlib.Omega.{arith}
use Rattle.base.specs.Search.{first_of}
use Rattle.tables.specs.Rows.{ScheduleRow}
use Rattle.tables.specs.declared.files.File.TheVariants.{Schedules}
use Rattle.tables.specs.declared.files.Refusal.{Refusal}
use Rattle.tables.specs.Refusals.{refused}
use Rattle.schedules.specs.Schedules.{not_in_supply, unscheduled}
use Rattle.schedules.specs.Runs.{lacking}
use Rattle.checking.specs.promises.Alone.{rows_unless}
use Rattle.checking.specs.Files.{units_refusals}
use Rattle.checking.specs.promises.Rules.{priced_refusals, held_refusals}
use Rattle.base.proofs.FirstLaws.{first-of-one, first-of-here, first-of-later}

pub some-none : {A : Type 0} {x : Refusal} → Some x ≡ None → A
some-none e = let z : ◌≡◌ {A = ℕ} 0 1 = cc in absurd (omega arith)

-- what an answer says of the refusal it goes by
pub rows-answered : (o : Option Refusal) (n : ℕ) {m : ℕ} → rows_unless o n ≡ Ok m → (o ≡ None) × (m ≡ n)
rows-answered None n e = (refl, cc)
rows-answered (Some x) n e = let z : ◌≡◌ {A = ℕ} 0 1 = cc in absurd (omega arith)

pub refused-answered : (o : Option Refusal) (n : ℕ) {x : Refusal} → rows_unless o n ≡ Err x → o ≡ Some x
refused-answered None n e = let z : ◌≡◌ {A = ℕ} 0 1 = cc in absurd (omega arith)
refused-answered (Some y) n e = cc

-- 8, then 9
module _
    (hour : ℕ) (us : List ℕ) (rs : List ScheduleRow) (n : ℕ) {p : Result ℕ Refusal}
    (first : p ≡ rows_unless (option_map (refused 8 Schedules) (unscheduled us rs)) n)
  where
    pub eighth-broken : {x : Refusal} → p ≡ Err x → Err x ≡ rows_unless (first_of (units_refusals hour us rs)) n
    unfolding units_refusals
    eighth-broken e = rw (first-of-here _ _ _ (refused-answered _ n (sym first ∙ e)))

    pub ninth-held :
        {m : ℕ} → p ≡ Ok m → {r : Result ℕ Refusal} → r ≡ rows_unless (option_map (refused 9 Schedules) (lacking hour us rs)) n →
        r ≡ rows_unless (first_of (units_refusals hour us rs)) n
    unfolding units_refusals
    ninth-held e second =
        let eighth = option_map (refused 8 Schedules) (unscheduled us rs) in
        let ninth = option_map (refused 9 Schedules) (lacking hour us rs) in
        second ∙ rw (first-of-later eighth (ninth ∷ []) (rows-answered _ n (sym first ∙ e)).0 ∙ first-of-one ninth)

-- 7, then all behind it
module _
    (waiting : Option Refusal) (hour : ℕ) (us : List ℕ) (rs : List ScheduleRow) (k : List ℕ) (n : ℕ) {p : Result ℕ Refusal}
    (first : p ≡ rows_unless (option_map (refused 7 Schedules) (not_in_supply us rs)) n)
  where
    pub seventh-broken : {x : Refusal} → p ≡ Err x → first_of (held_refusals waiting hour us rs k) ≡ Some x
    unfolding held_refusals
    seventh-broken e = first-of-here _ _ _ (refused-answered _ n (sym first ∙ e))

    pub seventh-kept : {m : ℕ} → p ≡ Ok m → first_of (held_refusals waiting hour us rs k) ≡ first_of (priced_refusals waiting hour us rs k)
    unfolding held_refusals
    seventh-kept e = first-of-later _ _ (rows-answered _ n (sym first ∙ e)).0

-- what waits, then 8 and 9
module _ (waiting : Option Refusal) (hour : ℕ) (us : List ℕ) (rs : List ScheduleRow) (n : ℕ) where
  pub waits : {x : Refusal} → waiting ≡ Some x → Err x ≡ rows_unless (first_of (waiting ∷ units_refusals hour us rs)) n
  waits w = rw (first-of-here _ _ _ w)

  pub none-waits :
      waiting ≡ None → {r : Result ℕ Refusal} → r ≡ rows_unless (first_of (units_refusals hour us rs)) n →
      r ≡ rows_unless (first_of (waiting ∷ units_refusals hour us rs)) n
  none-waits w held = held ∙ rw (first-of-later _ _ w)
