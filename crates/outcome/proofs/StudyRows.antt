-- The rows of a study, one for each unit of its supply file: what holds of each unit's row holds of all. Assumes nothing.
use Prim.Native.Nat.{ℕ}
use mathlib.Core.Path.{◌≡◌, refl}
use mathlib.Core.List.Memᴰ.{head as first}
use mathlib.Core.List.Memᴰ.{tail as later}
use mathlib.Core.List.{List, [], ◌∷◌, map, Memᴰ as Among}
use lib.ListN.{length, length-map}
use Rattle.base.specs.Search.{All, all_none, all_more}
use Rattle.checking.specs.Files.{Files, supply_of}
use Rattle.supply.specs.Supply.{units}
use Rattle.outcome.specs.Day.{DayView}
use Rattle.outcome.specs.Study.{study_rows}
use Rattle.outcome.proofs.RowsToBytes.{study_row, study-rows}
use Rattle.tables.specs.declared.answer.AnswerRow.{AnswerRow}

pub all_map :
    {A B : Type 0} {P : B → Type 0} (f : A → B) (xs : List A) → ((x : A) → Among x xs → P (f x)) → All P (map f xs)
all_map f [] h = all_none
all_map f (x ∷ xs) h = all_more (h x (first refl)) (all_map f xs (λ y m. h y (later m)))

module _ (d : DayView) (f : Files) where
  pub study-all : {P : AnswerRow → Type 0} → ((u : ℕ) → Among u (units (supply_of f.supply)) → P (study_row d f u)) → All P (study_rows d f)
  study-all each = rw (study-rows d f) (all_map (study_row d f) (units (supply_of f.supply)) each)

  pub study-count : length (study_rows d f) ≡ length (units (supply_of f.supply))
  study-count = rw (study-rows d f) (length-map (units (supply_of f.supply)) (study_row d f))
