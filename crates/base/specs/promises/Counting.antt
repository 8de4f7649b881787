-- Elements counted by a test. Assumes nothing.
use Rattle.std.specs.Prelude.{ℕ, suc, Bool, cond, List, [], ◌∷◌}

-- a test as a number to add
abbrev pub one : Bool → ℕ
one t = cond t 1 0

module _ {A : Type 0} (p : A → Bool) where
  -- how many elements pass the test before the first that doesn't
  unfoldable pub leading : List A → ℕ
  leading [] = 0
  leading (x ∷ xs) =
      let more = suc (leading xs) in
      cond (p x) more 0
