-- What the steps from a day to its cells promise each other. Assumes nothing.
use Rattle.std.specs.Prelude.{ℕ, ◌+◌, ◌*◌, List, [], ◌∷◌}
use Rattle.std.proofs.lemmas.List.Edits.{sets}
use Rattle.capping.specs.Days.{first_place, place_width}
use Rattle.capping.specs.declared.days.Place.{Place}

abbrev pub cells_of_place : Place → List ℕ
cells_of_place p = p.unit ∷ p.kind ∷ p.schedule ∷ []

-- cells with this in their i-th place
unfoldable pub placed : Place → ℕ → List ℕ → List ℕ
placed p i cells = sets cells (first_place + i * place_width) (cells_of_place p)
