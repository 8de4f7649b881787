-- Amounts that come from suppliers, each known by a number: the places of a list of different suppliers, and removals
-- by number. Assumes nothing; that these are the removals by place is shown in `proofs/Numbered`.
use Prim.Native.Nat.{ℕ}
use mathlib.Core.Logic.{◌≢◌}
use mathlib.Core.Bool.{cond}
use mathlib.Core.List.{List, [], ◌∷◌}
use lib.Dec.{eqb}
use lib.ListN.{get_or}
use Rattle.base.specs.Rising.{among}
use Rattle.pivotal.proofs.Removal.{Removal, alone, with-one, with_two}

-- no supplier of the list is k
pub data Absent (k : ℕ) : List ℕ → Type 0 where
  none : Absent k []
  more : {j : ℕ} {ks : List ℕ} → j ≢ k → Absent k ks → Absent k (j ∷ ks)

-- no supplier stands twice
pub data Distinct : List ℕ → Type 0 where
  none : Distinct []
  more : {k : ℕ} {ks : List ℕ} → Absent k ks → Distinct ks → Distinct (k ∷ ks)

-- the values f with that of the supplier k taken away
unfoldable pub without : (ℕ → ℕ) → ℕ → ℕ → ℕ
without f k j = cond (eqb j k) 0 (f j)

-- the suppliers ks but for those among js
unfoldable pub staying : List ℕ → List ℕ → List ℕ
staying js [] = []
staying js (k ∷ ks) =
    let more = staying js ks in
    cond (among k js) more (k ∷ more)

-- the suppliers that a removal takes away, where the places are those of the suppliers ks
unfoldable pub gone : {s : List ℕ} {p : ℕ} → List ℕ → Removal s p → List ℕ
gone {s} {p} ks alone = get_or ks p 0 ∷ []
gone {s} {p} ks (with-one q _ _) = get_or ks p 0 ∷ get_or ks q 0 ∷ []
gone {s} {p} ks (with_two q r _ _ _ _ _) = get_or ks p 0 ∷ get_or ks q 0 ∷ get_or ks r 0 ∷ []
