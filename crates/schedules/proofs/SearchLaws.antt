-- Searches among linked schedule rows. Assumes nothing.
use Prim.Native.Nat.{ℕ, zero, suc, ◌+◌, ◌-◌, ◌≤◌, ◌<◌}
use mathlib.Core.Path.{◌≡◌, refl, sym, ◌∙◌}
use mathlib.Core.Bool.{Bool, true, ◌||◌, or-false}
use mathlib.Core.List.{List, foldr}
use native.Mathlib.Omega.{arith}
use native.Mathlib.Numerals.{add-one}
use lib.Dec.{eqb}
use lib.ListN.{get_or, drop}
use borrow.Author.Tests.{eqb-true}
use Rattle.base.specs.Rising.{among}
use Rattle.base.specs.Search.{any}
use Rattle.tables.specs.Rows.{ScheduleRow}
use Rattle.tables.specs.promises.FlatRows.{schedule_rows}
use Rattle.cells.specs.promises.Views.{schedule_at}
use Rattle.cells.proofs.RowViews.{schedule-next}
use Rattle.links.specs.promises.Links.{most_linked, Linked, LinkedTo, any_before, Along, unit_keys, by_unit, unit_key}
use Rattle.links.proofs.LinkLaws.{along-key, linked-upto, down}
use Rattle.numbers.proofs.NumberLaws.{one_of}
use Rattle.schedules.specs.promises.Answers.{schedules_before, KnownBefore}
use Rattle.schedules.proofs.ScheduleLaws.{rows_end}

-- schedule rows searched by their places
module _ (cells : List ℕ) (q : ScheduleRow → Bool) where
  abbrev at : ℕ → Bool
  at j = q (schedule_at cells j)

  pub earlier-any : (k : ℕ) → any q (schedules_before cells k) ≡ any_before at k
  unfolding any schedules_before any_before
  earlier-any zero = refl
  earlier-any (suc k) = rw (earlier-any k)

  rows-from : (n k : ℕ) → k ≤ n → any q (schedule_rows n cells) ≡ (any_before at k || any q (drop k (schedule_rows n cells)))
  unfolding any any_before
  rows-from n zero h = refl
  rows-from n (suc k) h =
      rows-from n k (omega arith)
      ∙ rw (schedule-next n cells k (omega arith), add-one k) (sym (one_of (at k) (any_before at k) _))

  pub rows-any : (n : ℕ) → any q (schedule_rows n cells) ≡ any_before at n
  unfolding any
  rows-any n = rows-from n n (omega arith) ∙ rw (rows_end n cells n (omega arith)) (or-false (any_before at n))

-- a state that each row changes, from the last to the first
module _ {S : Type 0} (cells : List ℕ) (step : S → ScheduleRow → S) (start : S) where
  abbrev folded : List ScheduleRow → S
  folded rows = foldr (λ (row : ScheduleRow) (s : S). step s row) start rows

  abbrev at_place : S → ℕ → S
  at_place s j = step s (schedule_at cells j)

  down-from : (n k : ℕ) → k ≤ n → folded (schedule_rows n cells) ≡ down at_place (folded (drop k (schedule_rows n cells))) k
  unfolding down
  down-from n zero h = refl
  down-from n (suc k) h = down-from n k (omega arith) ∙ rw (schedule-next n cells k (omega arith), add-one k)

  pub rows-down : (n : ℕ) → folded (schedule_rows n cells) ≡ down at_place start n
  rows-down n = down-from n n (omega arith) ∙ rw (rows_end n cells n (omega arith))

-- a row that is linked to one of its unit, left - 1, has a known unit where those before it have
pub repeats-known :
    (us cells : List ℕ) (k : ℕ) (links : List ℕ) (left : ℕ) → left ≡ get_or links k 0 → LinkedTo (unit_key cells) k links →
    KnownBefore us cells k → 0 < left → (schedule_at cells (left - 1)).unit ≡ (schedule_at cells k).unit →
    true ≡ among (schedule_at cells k).unit us
repeats-known us cells k links left is l known h same = rw (← same) (sym (known (left - 1) (omega (arith, linked-upto l))))

-- a search of all rows for some of the unit u, whose key is x
pub along-unit :
    (cells : List ℕ) (n u x : ℕ) (links : List ℕ) (p : ℕ → Bool) → Linked (unit_key cells) unit_keys n links → x ≡ by_unit u → x < unit_keys →
    ((j : ℕ) → p j ≡ true → eqb (schedule_at cells j).unit u ≡ true) → Along p n links (get_or links (most_linked + x) 0)
along-unit cells n u x links p l is one of-unit = along-key p x l one alike
  where
    alike : (j : ℕ) → p j ≡ true → unit_key cells j ≡ x
    alike j e = rw (is, eqb-true (schedule_at cells j).unit u (of-unit j e))
