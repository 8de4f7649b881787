-- Numerals as a grammar, with the value: "A numeral is digits with no sign and no leading zero, except `0` itself." Assumes nothing.
use Rattle.std.specs.Prelude.{ℕ, ◌≤◌, ◌≢◌, List, [], ◌∷◌}
use Rattle.numeral.specs.Numeral.{ZERO, NINE, with_digit}

-- a digit, 0 to 9
pub record Digit (b : ℕ) : Type 0 where
  pub least : ZERO ≤ b
  pub most : b ≤ NINE

-- s is digits, and behind a number m they make the number n
pub data Digits : ℕ → List ℕ → ℕ → Type 0 where
  end : {m : ℕ} → Digits m [] m
  digit : {m b n : ℕ} {s : List ℕ} → Digit b → Digits (with_digit m b) s n → Digits m (b ∷ s) n

-- s is a numeral of value n: `0` itself, or digits of which the first is not 0
pub data Numeral : List ℕ → ℕ → Type 0 where
  zero-itself : Numeral (ZERO ∷ []) 0
  no-leading-zero : {b n : ℕ} {s : List ℕ} → b ≢ ZERO → Digits 0 (b ∷ s) n → Numeral (b ∷ s) n
