-- The values of rows beside the cells that they are. Assumes nothing.
use Rattle.std.specs.Prelude.{ℕ, ◌≡◌, List, [], ◌∷◌, ◌++◌, Some}
use Rattle.tables.specs.Table.{Column}
use Rattle.tables.specs.Values.{value}

-- of one row
pub data CellsOf : List Column → List (List ℕ) → List ℕ → Type 0 where
  none : CellsOf [] [] []
  more :
      {c : Column} {cs : List Column} {v : List ℕ} {vs : List (List ℕ)} {x : ℕ} {xs : List ℕ} →
      value c v ≡ Some x → CellsOf cs vs xs → CellsOf (c ∷ cs) (v ∷ vs) (x ∷ xs)

-- of several, whose cells stand one row behind the other
pub data RowsOf (cs : List Column) : List (List (List ℕ)) → List ℕ → Type 0 where
  none : RowsOf cs [] []
  more :
      {v : List (List ℕ)} {vs : List (List (List ℕ))} {x xs : List ℕ} →
      CellsOf cs v x → RowsOf cs vs xs → RowsOf cs (v ∷ vs) (x ++ xs)
