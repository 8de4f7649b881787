-- Laws of suppliers put into the rows of an answer, one row a turn, and of what that makes of decided rows. Assumes nothing.
use Prim.Native.Nat.{ℕ, ◌*◌, ◌≤◌, ◌<◌}
use mathlib.Core.Path.{◌≡◌, refl}
use mathlib.Core.List.{List, [], ◌∷◌, map}
use native.Mathlib.Omega.{arith}
use lib.ListN.{length, get_or, take, drop}
use lib.Seq.{get_or-take, length-take-le}
use Rattle.base.proofs.Lists.{drop-next, drop-end}
use Rattle.tables.specs.Rows.{SupplyRow, ScheduleRow}
use Rattle.tables.specs.declared.constraint.ConstraintRow.{ConstraintRow}
use Rattle.cells.specs.promises.Views.{answer_at, answer_rows}
use Rattle.cells.proofs.RowStores.{Changing, changing-over}
use Rattle.cells.proofs.RowViews.{answer-next, answer-length}
use Rattle.outcome.specs.Day.{RunningUnit}
use Rattle.outcome.specs.Decision.{decided_row}
use Rattle.decision.specs.promises.Naming.{supplier_of, named, all_named, RowsNamed}

-- of k rows the first i have their suppliers, and the others are as they were
pub record Naming (suppliers : List ℕ) (k : ℕ) (old new : List ℕ) (i : ℕ) : Type 0 where
  pub listed : k ≤ length suppliers
  pub room : k * 7 ≤ length old
  pub untouched : i ≡ 0 → new ≡ old
  pub changing : Changing answer_at (λ (j : ℕ). named (get_or suppliers j 0)) k old new i

module _ (suppliers : List ℕ) (k : ℕ) (old : List ℕ) where
  all_named_lem :
      (new : List ℕ) (i : ℕ) → Naming suppliers k old new i → k ≤ i →
      answer_rows k new ≡ all_named (take k suppliers) (answer_rows k old)
  unfolding all_named
  all_named_lem new i n h =
      let listed = length-take-le k suppliers n.listed in
      changing-over _ _ k old new i n.changing h (answer_rows k new) (answer-length k new) (answer-next k new)
      (λ (j : ℕ). all_named (drop j (take k suppliers)) (drop j (answer_rows k old)))
      (rw (drop-end k (take k suppliers) (rw listed (omega arith))))
      (λ (j : ℕ) (f : j < k).
      rw (
        answer-next k old j f,
        drop-next 0 j (take k suppliers) (rw listed f),
        get_or-take k suppliers j 0 f,
      ))

  pub naming-over : (new : List ℕ) (i : ℕ) → Naming suppliers k old new i → k ≤ i → RowsNamed suppliers k old new
  naming-over new i n h =
      record { rows = all_named_lem new i n h; none = λ e. n.untouched (omega (arith, n.changing.upto)) }

-- rows that were decided by groups, with the suppliers of the supply file
pub named-rows :
    (c : ConstraintRow) (supply : List SupplyRow) (scheduled : List ScheduleRow) (running : List RunningUnit) (ungrouped : List SupplyRow)
    (us : List ℕ) →
    all_named (map (supplier_of ungrouped) us) (map (decided_row c supply scheduled running supply) us)
    ≡ map (decided_row c supply scheduled running ungrouped) us
unfolding all_named decided_row
named-rows c supply scheduled running ungrouped [] = refl
named-rows c supply scheduled running ungrouped (u ∷ us) = rw (named-rows c supply scheduled running ungrouped us)
