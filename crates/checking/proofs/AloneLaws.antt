-- Laws of the readers of one file alone: one for each way through the code. Assumes nothing.
use Rattle.std.specs.Prelude.{Err, None, Ok, Option, Result, Some, option_map}
use Prim.Native.Nat.{ℕ, ◌*◌, ◌≤◌}
use mathlib.Core.Path.{◌≡◌, sym, ◌∙◌, ap}
use mathlib.Core.List.{List}
use native.Mathlib.Omega.{arith}
use lib.ListN.{length}
use Rattle.base.specs.Search.{first_of, All}
use Rattle.tables.specs.promises.Laying.{FileRead, room}
use Rattle.tables.specs.promises.Ranges.{PermittedSchedule}
use Rattle.tables.specs.Reading.{refusal}
use Rattle.tables.specs.Rows.{constraint_row}
use Rattle.tables.specs.declared.files.File.TheVariants.{Constraint, Supply, Schedules}
use Rattle.tables.specs.declared.files.Refusal.{Refusal}
use Rattle.tables.proofs.Accepted.{accepted}
use Rattle.tables.specs.Refusals.{refused}
use Rattle.tables.specs.promises.FlatRows.{supply_rows, schedule_rows}
use Rattle.cells.specs.promises.Views.{supply_width, schedule_width}
use Rattle.links.specs.promises.Links.{most_linked, RowsLinked}
use Rattle.supply.specs.Supply.{units, over_limit, supply_at_odds}
use Rattle.supply.specs.promises.Rows.{Counted}
use Rattle.supply.specs.declared.rows.Counts.{Counts}
use Rattle.schedules.specs.Schedules.{schedules_at_odds}
use Rattle.checking.specs.promises.Alone.{constraint_checked, SupplyChecked, rows_unless, SchedulesChecked}
use Rattle.checking.specs.Files.{supply_of, schedules_of, alone_refusals}
use Rattle.checking.proofs.FilesLaws.{was_read, was-refused, supply-count, schedules-count, supply-rows, schedule-rows, constraint-row}
use Rattle.base.proofs.FirstLaws.{first-of-one, first-of-here, first-of-later}
use Rattle.checking.proofs.KeptLaws.{schedules-kept}
use Rattle.checking.proofs.Rooms.{supply-room, schedules-room}
use Rattle.checking.proofs.RuleLaws.{some-none}

-- the constraint
module _ (c old new : List ℕ) (r : Result ℕ Refusal) (read : FileRead Constraint c old new r) where
  pub constraint-unread : {x : Refusal} → r ≡ Err x → Err x ≡ constraint_checked c
  unfolding constraint_checked alone_refusals
  constraint-unread e = rw (first-of-one (refusal Constraint c), was-refused Constraint c read.answers e)

  pub constraint-read : {n : ℕ} → r ≡ Ok n → Ok (constraint_row new) ≡ constraint_checked c
  unfolding constraint_checked alone_refusals
  constraint-read e =
      let none-refused = (was_read Constraint c read.answers e).0 in
      rw (first-of-one (refusal Constraint c), none-refused) (ap Ok (constraint-row c old new r none-refused read))

-- supply
module _ (s : List ℕ) where
  supply-refused : (x : Refusal) → first_of (alone_refusals Supply s) ≡ Some x → (cells us : List ℕ) → SupplyChecked s cells us (Err x)
  supply-refused x e cells us = record { answers = rw e; kept = λ z. some-none (sym e ∙ z) }

module _ (s old new : List ℕ) (r : Result ℕ Refusal) (read : FileRead Supply s old new r) where
  pub supply-unread : (us : List ℕ) {x : Refusal} → r ≡ Err x → SupplyChecked s new us (Err x)
  unfolding alone_refusals
  supply-unread us {x} e = supply-refused s x (first-of-here _ _ _ (was-refused Supply s read.answers e)) new us

  module _ (n : ℕ) (e : r ≡ Ok n) where
    supply-was-read : refusal Supply s ≡ None
    supply-was-read = (was_read Supply s read.answers e).0

    supply-number : n ≡ length (supply_of s)
    supply-number = (was_read Supply s read.answers e).1 ∙ sym (supply-count s)

    supply-rows-read : supply_rows n new ≡ supply_of s
    supply-rows-read = rw supply-number (supply-rows s old new r supply-was-read read)

    pub supply-fits : room Supply ≤ length new → n * supply_width ≤ length new
    supply-fits h = omega (arith, supply-room, (was_read Supply s read.answers e).1, (accepted Supply s supply-was-read).most)

    module _ (us ss : List ℕ) (k : Counts) (counted : Counted (supply_rows n new) us ss k) where
      over-limit-told : over_limit (supply_of s) ≡ k.place
      over-limit-told = rw (← supply-rows-read) (sym counted.place)

      -- 5
      pub supply-over-limit : {p : ℕ} → k.place ≡ Some p → {x : Refusal} → x ≡ refused 5 Supply p → SupplyChecked s new us (Err x)
      unfolding alone_refusals
      supply-over-limit h {x} f =
          supply-refused s x
          (first-of-later _ _ supply-was-read ∙ first-of-here _ _ _ (rw (over-limit-told, h, f)))
          new us

      module _ (z : k.place ≡ None) (o : Option ℕ) (told : o ≡ supply_at_odds (supply_rows n new)) where
        within-limits : over_limit (supply_of s) ≡ None
        within-limits = over-limit-told ∙ z

        at-odds-told : supply_at_odds (supply_of s) ≡ o
        at-odds-told = rw (← supply-rows-read) (sym told)

        -- 6
        pub supply-odd : {p : ℕ} → o ≡ Some p → {x : Refusal} → x ≡ refused 6 Supply p → SupplyChecked s new us (Err x)
        unfolding alone_refusals
        supply-odd h {x} f =
            supply-refused s x
            (first-of-later _ _ supply-was-read
            ∙ first-of-later _ _ (rw within-limits)
            ∙ first-of-here _ _ _ (rw (at-odds-told, h, f)))
            new us

        pub supply-passed : o ≡ None → SupplyChecked s new us (Ok (record { rows = n; units = k.units }))
        unfolding alone_refusals
        supply-passed y =
            let agrees = at-odds-told ∙ y in
            let listed = counted.all-units (rw supply-rows-read within-limits) in
            let count : k.units ≡ length (units (supply_of s)) = rw (← supply-rows-read) listed.counted in
            let first : first_of (alone_refusals Supply s) ≡ None =
            first-of-later _ _ supply-was-read ∙ first-of-later _ _ (rw within-limits) ∙ first-of-one _ ∙ rw agrees
            in
            record {
              answers = rw (first, supply-number, count);
              kept = λ _.
                  record {
                    rows = supply-rows s old new r supply-was-read read;
                    listed = rw (← count, ← supply-rows-read) listed.listed;
                  };
            }

-- schedules
module _ (h old new : List ℕ) (r : Result ℕ Refusal) (read : FileRead Schedules h old new r) where
  pub schedules-unread : (links : List ℕ) {x : Refusal} → r ≡ Err x → SchedulesChecked (alone_refusals Schedules h) (schedules_of h) new links (Err x)
  unfolding alone_refusals
  schedules-unread links {x} e =
      let first : first_of (alone_refusals Schedules h) ≡ Some x = first-of-here _ _ _ (was-refused Schedules h read.answers e) in
      record { answers = rw first; kept = λ z. some-none (sym first ∙ z) }

  module _ (n : ℕ) (e : r ≡ Ok n) where
    schedules-were-read : refusal Schedules h ≡ None
    schedules-were-read = (was_read Schedules h read.answers e).0

    schedules-number : n ≡ length (schedules_of h)
    schedules-number = (was_read Schedules h read.answers e).1 ∙ sym (schedules-count h)

    schedule-rows-read : schedule_rows n new ≡ schedules_of h
    schedule-rows-read = rw schedules-number (schedule-rows h old new r schedules-were-read read)

    pub schedules-fit : room Schedules ≤ length new → (n ≤ most_linked) × (n * schedule_width ≤ length new)
    schedules-fit m =
        let few = (accepted Schedules h schedules-were-read).most in
        let count = (was_read Schedules h read.answers e).1 in
        (omega (arith, count, few), omega (arith, schedules-room, count, few))

    pub schedules-in-ranges : All PermittedSchedule (schedule_rows n new)
    schedules-in-ranges = rw schedule-rows-read (schedules-kept h schedules-were-read)

    -- 6
    pub schedules-read :
        (links : List ℕ) → RowsLinked new n links → (fault : Option ℕ) → fault ≡ schedules_at_odds (schedule_rows n new) →
        (a : Result ℕ Refusal) → a ≡ rows_unless (option_map (refused 6 Schedules) fault) n →
        SchedulesChecked (alone_refusals Schedules h) (schedules_of h) new links a
    unfolding alone_refusals
    schedules-read links linked fault told a answered =
        let fault-told : fault ≡ schedules_at_odds (schedules_of h) = rw (← schedule-rows-read) told in
        let first = first-of-later (refusal Schedules h) _ schedules-were-read ∙ first-of-one (option_map (refused 6 Schedules) (schedules_at_odds (schedules_of h))) in
        record {
          answers = answered ∙ rw (first, fault-told, schedules-number);
          kept = λ _.
              record {
                laid = schedule-rows h old new r schedules-were-read read;
                linked = rw (← schedules-number) linked;
              };
        }
