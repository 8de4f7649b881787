-- A test that is fed, in the cells that a host program keeps between calls. Assumes nothing.
use Rattle.std.specs.Prelude.{ℕ, ◌≡◌, List, [], ◌∷◌, get_or}
use Rattle.pivotal.specs.Test.{tested}
use Rattle.pivotal.specs.Fed.{begun, fed_all}
use Rattle.pivotal.specs.declared.feeding.FedTest.{FedTest}
use Rattle.capping.specs.Exports.{test_number, test_left}

-- "Between calls it is at most ten plain numbers."
abbrev pub fed_cells : FedTest → List ℕ
fed_cells t = t.place ∷ t.need ∷ t.count ∷ t.total ∷ t.largest.first ∷ t.largest.second ∷ []

-- what any cells mean
abbrev pub fed_in : List ℕ → FedTest
fed_in cells =
    record {
      place = get_or cells 0 0;
      need = get_or cells 1 0;
      count = get_or cells 2 0;
      total = get_or cells 3 0;
      largest = record { first = get_or cells 4 0; second = get_or cells 5 0 };
    }

-- what cells that were begun and fed answer when asked: the number, and what is left; of any other cells it is left open
abbrev pub FedTold : List ℕ → ℕ → ℕ → ℕ → Type 0
FedTold cells old new r =
    (s : List ℕ) (p need : ℕ) → cells ≡ fed_cells (fed_all (begun p need) s) →
    (r ≡ test_number (tested s p need)) × (new ≡ test_left (tested s p need) old)
