-- Laws of the lines that begin a case, by their first byte. Assumes nothing.
use Prim.Native.Nat.{ℕ}
use Prim.Native.Char.{code}
use mathlib.Core.Path.{◌≡◌, refl}
use mathlib.Core.Bool.{false, not}
use mathlib.Core.List.{List, [], ◌∷◌}
use native.Mathlib.Omega.{arith}
use lib.Dec.{eqb}
use lib.ListN.{length, get_or}
use borrow.Author.Tests.{eq-eqb, ne_eqb}
use Rattle.test_cases.specs.promises.Lines.{is_case}

pub no-case-empty : (s : List ℕ) → length s ≡ 0 → false ≡ is_case s
unfolding is_case
no-case-empty [] e = refl
no-case-empty (b ∷ s) e = absurd (omega arith)

pub no-case-blank : (s : List ℕ) → get_or s 0 0 ≡ code " " → false ≡ is_case s
unfolding is_case
no-case-blank [] e = refl
no-case-blank (b ∷ s) e = rw (eq-eqb b (code " ") e)

pub case-unless-comment :
    (s : List ℕ) → (length s ≡ 0 → ⊥) → (get_or s 0 0 ≡ code " " → ⊥) → not (eqb (get_or s 0 0) (code "#")) ≡ is_case s
unfolding is_case
case-unless-comment [] some e = absurd (some refl)
case-unless-comment (b ∷ s) some e = rw (ne_eqb b (code " ") e)
