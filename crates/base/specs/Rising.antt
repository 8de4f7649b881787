-- Different numbers, by rising number. Assumes nothing.
use Rattle.std.specs.Prelude.{ℕ, ◌<◌, Bool, false, cond, ◌||◌, List, [], ◌∷◌, eqb, ltb}

-- rising numbers with one more, unless it is there
unfoldable pub inserted : ℕ → List ℕ → List ℕ
inserted x [] = x ∷ []
inserted x (y ∷ ys) =
    let more = y ∷ inserted x ys in
    cond (ltb x y) (x ∷ y ∷ ys) (cond (eqb x y) (y ∷ ys) more)

-- whether a number is one of some
unfoldable pub among : ℕ → List ℕ → Bool
among x [] = false
among x (y ∷ ys) = eqb x y || among x ys

-- numbers that strictly rise, all of them above a bound
pub data RisingFrom : ℕ → List ℕ → Type 0 where
  end : {b : ℕ} → RisingFrom b []
  next : {b x : ℕ} {xs : List ℕ} → b < x → RisingFrom x xs → RisingFrom b (x ∷ xs)
