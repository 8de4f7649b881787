-- Laws of the steps of the check: constraint and supply together, and schedules beside them, one for each way through the code.
-- Assumes nothing.
use Rattle.std.specs.Prelude.{Err, None, Ok, Option, Result, Some}
use Rattle.checking.specs.declared.supply_file.Supplied.{Supplied}
use Prim.Native.Nat.{ℕ, ◌*◌, ◌≤◌}
use mathlib.Core.Path.{◌≡◌, refl, sym, ◌∙◌, ap}
use mathlib.Core.List.{List, [], ◌∷◌, ◌++◌, append_assoc}
use native.Mathlib.Omega.{arith}
use lib.ListN.{length}
use Rattle.base.specs.Search.{first_of}
use Rattle.base.proofs.Searches.{first-of-none, option-map-none}
use Rattle.hours.specs.Hours.{last_hour}
use Rattle.tables.specs.promises.Laying.{room}
use Rattle.tables.specs.Reading.{refusal}
use Rattle.tables.specs.declared.constraint.ConstraintRow.{ConstraintRow}
use Rattle.tables.specs.declared.files.File.TheVariants.{Constraint, Supply, Schedules}
use Rattle.tables.specs.declared.files.Refusal.{Refusal}
use Rattle.tables.proofs.Accepted.{accepted}
use Rattle.tables.specs.Refusals.{refused}
use Rattle.tables.specs.promises.FlatRows.{schedule_rows}
use Rattle.cells.specs.promises.Views.{schedule_width}
use Rattle.links.specs.promises.Links.{RowsLinked}
use Rattle.supply.specs.Supply.{units}
use Rattle.curves.proofs.PricedLaws.{priced-count, priced-linked}
use Rattle.schedules.specs.Schedules.{schedules_at_odds}
use Rattle.schedules.specs.promises.Ranges.{Checked}
use Rattle.checking.specs.promises.Alone.{constraint_unless, constraint_checked, supply_unless, SupplyChecked, SchedulesChecked}
use Rattle.checking.specs.promises.Market.{MarketChecked}
use Rattle.checking.specs.Files.{constraint_of, supply_of, schedules_of, curves_of, alone_refusals, market_refusals, schedules_refusals, beside_refusals}
use Rattle.checking.specs.promises.Curves.{priced_rows, RowsHeld}
use Rattle.checking.specs.promises.Rules.{priced_refusals, held_refusals}
use Rattle.checking.proofs.FilesLaws.{schedules-count}
use Rattle.base.proofs.FirstLaws.{first-of-part, first-of-rest}
use Rattle.checking.proofs.KeptLaws.{schedules-kept}
use Rattle.checking.proofs.Rooms.{schedules-room}
use Rattle.checking.proofs.RuleLaws.{some-none, rows-answered, refused-answered}

-- what the readers' answers say of the refusal they go by
pub row-answered : (o : Option Refusal) (c : List ℕ) {row : ConstraintRow} → constraint_unless o c ≡ Ok row → (o ≡ None) × (row ≡ constraint_of c)
row-answered None c e = (refl, cc)
row-answered (Some x) c e = let z : ◌≡◌ {A = ℕ} 0 1 = cc in absurd (omega arith)

pub constraint-answered : (o : Option Refusal) (c : List ℕ) {x : Refusal} → constraint_unless o c ≡ Err x → o ≡ Some x
constraint-answered None c e = let z : ◌≡◌ {A = ℕ} 0 1 = cc in absurd (omega arith)
constraint-answered (Some y) c e = cc

pub counts-answered :
    (o : Option Refusal) (s : List ℕ) {k : Supplied} → supply_unless o s ≡ Ok k →
    (o ≡ None) × (k.rows ≡ length (supply_of s)) × (k.units ≡ length (units (supply_of s)))
counts-answered None s {k} e =
    let same : ◌≡◌ {A = Supplied} (record { rows = length (supply_of s); units = length (units (supply_of s)) }) k = cc in
    (refl, sym (ap (λ (j : Supplied). j.rows) same), sym (ap (λ (j : Supplied). j.units) same))
counts-answered (Some x) s e = let z : ◌≡◌ {A = ℕ} 0 1 = cc in absurd (omega arith)

pub supply-answered : (o : Option Refusal) (s : List ℕ) {x : Refusal} → supply_unless o s ≡ Err x → o ≡ Some x
supply-answered None s e = let z : ◌≡◌ {A = ℕ} 0 1 = cc in absurd (omega arith)
supply-answered (Some y) s e = cc

-- the market
module _ (c s cells us : List ℕ) {q : Result ConstraintRow Refusal} (checked : q ≡ constraint_checked c) where
  market-refused : (x : Refusal) → first_of (market_refusals c s) ≡ Some x → MarketChecked c s cells us (Err x)
  market-refused x e = record { answers = rw e; kept = λ z. some-none (sym e ∙ z) }

  pub market-unread : {x : Refusal} → q ≡ Err x → MarketChecked c s cells us (Err x)
  unfolding constraint_checked market_refusals
  market-unread {x} e =
      market-refused x
      (first-of-part (alone_refusals Constraint c) (alone_refusals Supply s) x
      (constraint-answered (first_of (alone_refusals Constraint c)) c (sym checked ∙ e)))

  module _ {row : ConstraintRow} (e : q ≡ Ok row) {p : Result Supplied Refusal} (supplied : SupplyChecked s cells us p) where
    row_told : (first_of (alone_refusals Constraint c) ≡ None) × (row ≡ constraint_of c)
    unfolding constraint_checked
    row_told = row-answered (first_of (alone_refusals Constraint c)) c (sym checked ∙ e)

    supply-first : first_of (market_refusals c s) ≡ first_of (alone_refusals Supply s)
    unfolding market_refusals
    supply-first = first-of-rest (alone_refusals Constraint c) (alone_refusals Supply s) row_told.0

    pub market-unsupplied : {x : Refusal} → p ≡ Err x → MarketChecked c s cells us (Err x)
    market-unsupplied {x} f =
        market-refused x (supply-first ∙ supply-answered (first_of (alone_refusals Supply s)) s (sym supplied.answers ∙ f))

    pub market-passed :
        {k : Supplied} → p ≡ Ok k →
        MarketChecked c s cells us (Ok (record { constraint = row; rows = k.rows; units = k.units }))
    market-passed f =
        let (passed, rows, count) = counts-answered (first_of (alone_refusals Supply s)) s (sym supplied.answers ∙ f) in
        record {
          answers = rw (supply-first ∙ passed, row_told.1, rows, count);
          kept = λ _. supplied.kept passed;
        }

-- schedules beside a market
module _ (h cells links : List ℕ) {q : Result ℕ Refusal} (read : SchedulesChecked (alone_refusals Schedules h) (schedules_of h) cells links q) where
  module _ (k : List ℕ) (w : Option Refusal) (hour : ℕ) (us : List ℕ) where
    beside-parts : beside_refusals (w ∷ []) hour us h k ≡ alone_refusals Schedules h ++ held_refusals w hour us (schedules_of h) k
    unfolding beside_refusals schedules_refusals held_refusals priced_refusals
    beside-parts = append_assoc (alone_refusals Schedules h) _ _

    pub beside-unread : {x : Refusal} → q ≡ Err x → SchedulesChecked (beside_refusals (w ∷ []) hour us h k) (priced_rows h k) cells links (Err x)
    beside-unread {x} e =
        let alone = refused-answered (first_of (alone_refusals Schedules h)) _ (sym read.answers ∙ e) in
        let first : first_of (beside_refusals (w ∷ []) hour us h k) ≡ Some x = rw beside-parts (first-of-part (alone_refusals Schedules h) _ x alone) in
        record { answers = rw first; kept = λ z. some-none (sym first ∙ z) }

  module _ (n : ℕ) (e : q ≡ Ok n) where
    passed : (first_of (alone_refusals Schedules h) ≡ None) × (n ≡ length (schedules_of h))
    passed = rows-answered (first_of (alone_refusals Schedules h)) (length (schedules_of h)) (sym read.answers ∙ e)

    alone-kept : (refusal Schedules h ≡ None) × (schedules_at_odds (schedules_of h) ≡ None)
    unfolding alone_refusals
    alone-kept =
        let (read_whole, later) = first-of-none (refusal Schedules h) _ passed.0 in
        (read_whole, option-map-none (refused 6 Schedules) (schedules_at_odds (schedules_of h)) (first-of-none _ [] later).0)

    rows_are : schedule_rows n cells ≡ schedules_of h
    rows_are = rw passed.1 (read.kept passed.0).laid

    pub rows-linked : RowsLinked cells n links
    rows-linked = rw passed.1 (read.kept passed.0).linked

    pub rows_fit : room Schedules ≤ length cells → n * schedule_width ≤ length cells
    rows_fit m = omega (arith, schedules-room, passed.1, schedules-count h, (accepted Schedules h alone-kept.0).most)

    pub rows-checked : (hour : ℕ) → hour ≤ last_hour → Checked hour (schedule_rows n cells)
    rows-checked hour m =
        record {
          hour = m;
          ranges = rw rows_are (schedules-kept h alone-kept.0);
          agree = rw rows_are alone-kept.1;
        }

    pub beside-passed :
        (k : List ℕ) (w : Option Refusal) (hour : ℕ) (us new : List ℕ) (a : Result ℕ Refusal) → RowsHeld w hour us k n cells new a →
        SchedulesChecked (beside_refusals (w ∷ []) hour us h k) (priced_rows h k) new links a
    beside-passed k w hour us new a held =
        let first : first_of (beside_refusals (w ∷ []) hour us h k) ≡ first_of (held_refusals w hour us (schedule_rows n cells) k) =
        rw (beside-parts k w hour us, rows_are) (first-of-rest (alone_refusals Schedules h) (held_refusals w hour us (schedules_of h) k) passed.0) in
        let count : length (priced_rows h k) ≡ n = priced-count (curves_of k) (schedules_of h) ∙ sym passed.1 in
        record {
          answers = held.answers ∙ rw (first, count);
          kept =
              λ z.
              record {
                laid = rw count (held.by-curves (sym first ∙ z) ∙ rw rows_are);
                linked = rw count (priced-linked (curves_of k) n cells new (held.by-curves (sym first ∙ z)) rows-linked);
              };
        }
