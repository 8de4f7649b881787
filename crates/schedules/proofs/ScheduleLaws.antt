-- Laws of the searches over schedule rows, one for each step of a loop, over plain lists. Assumes nothing.
use Rattle.std.specs.Prelude.{None, Some}
use Prim.Native.Nat.{ℕ, suc, ◌+◌, ◌≤◌, ◌<◌}
use mathlib.Core.Path.{◌≡◌, refl, sym, ◌∙◌, ap}
use mathlib.Core.Logic.{⊎_elim}
use mathlib.Core.Bool.{Bool, true, false, not, cond}
use mathlib.Core.List.{List, [], ◌∷◌}
use native.Mathlib.Omega.{arith}
use native.Mathlib.Numerals.{add-one}
use lib.ListN.{drop}
use borrow.Author.Tests.{not-false}
use Rattle.base.specs.Rising.{among}
use Rattle.std.specs.List
use Rattle.base.specs.Search.{first, find}
use Rattle.base.proofs.Lists.{drop-end}
use Rattle.base.proofs.Searches.{first-none, first-here, first-later}
use Rattle.base.proofs.Tests.{eq-or-ne}
use Rattle.tables.specs.Rows.{ScheduleRow}
use Rattle.tables.specs.promises.FlatRows.{schedule_rows}
use Rattle.cells.specs.promises.Views.{schedule_at}
use Rattle.cells.proofs.RowViews.{schedule-next, schedule-length}
use Rattle.schedules.specs.promises.Answers.{KnownBefore}
use Rattle.schedules.specs.Schedules.{not_in_supply}

-- n rows, of which k are passed
module _ (n : ℕ) (cells : List ℕ) where
  pub rows_end : (k : ℕ) → n ≤ k → drop k (schedule_rows n cells) ≡ []
  rows_end k h = drop-end k (schedule_rows n cells) (rw (schedule-length n cells) h)

-- the rows that are passed are of known units
pub record Known (n : ℕ) (cells us : List ℕ) (k : ℕ) : Type 0 where
  pub passed : KnownBefore us cells k
  pub rest :
      not_in_supply us (schedule_rows n cells)
      ≡ first (λ (r : ScheduleRow). not (among r.unit us)) (suc k) (drop k (schedule_rows n cells))

module _ (n : ℕ) (cells us : List ℕ) where
  abbrev stranger : ScheduleRow → Bool
  stranger r = not (among r.unit us)

  pub known-none : Known n cells us 0
  unfolding not_in_supply
  known-none = record { passed = λ (j : ℕ) (h : j < 0). absurd (omega arith); rest = refl }

  -- t says whether the next row's unit is known
  module _ (k : ℕ) (t : Bool) (l : Known n cells us k) (h : k < n) (said : t ≡ among (schedule_at cells k).unit us) where
    pub known-here : not t ≡ true → Some (k + 1) ≡ not_in_supply us (schedule_rows n cells)
    known-here e =
        let not-in-supply-row : stranger (schedule_at cells k) ≡ true = rw (← said) e in
        rw (l.rest, schedule-next n cells k h, first-here stranger (suc k) (schedule_at cells k) (drop (k + 1) (schedule_rows n cells)) not-in-supply-row, add-one k)

    pub known_next : not t ≡ false → Known n cells us (k + 1)
    known_next e =
        let known-row : stranger (schedule_at cells k) ≡ false = rw (← said) e in
        record {
          passed = passed-next;
          rest = l.rest ∙ rw (schedule-next n cells k h, add-one k) (first-later stranger (suc k) (schedule_at cells k) _ known-row);
        }
      where
        passed-next : KnownBefore us cells (k + 1)
        passed-next j f =
            ⊎_elim
            (λ (s : j ≡ k). rw s (sym said ∙ not-false t e))
            (λ (o : j ≡ k → ⊥). l.passed j (omega arith))
            (eq-or-ne j k)

  pub known_over : (k : ℕ) → Known n cells us k → n ≤ k → None ≡ not_in_supply us (schedule_rows n cells)
  known_over k l h = rw (l.rest, rows_end n cells k h, first-none stranger (suc k))

-- std's search finds what the definition's does
pub find-std : {A : Type 0} (p : A → Bool) (xs : List A) → List.find p xs ≡ find p xs
unfolding find
find-std p [] = refl
find-std p (x ∷ xs) = ap (cond (p x) (Some x)) (find-std p xs)
