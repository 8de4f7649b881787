-- Comparing two texts, by std's pairs of two lists and by base's definition. Assumes nothing.
use Prim.Native.Nat.{ℕ}
use mathlib.Core.Path.{◌≡◌, refl, ◌∙◌}
use mathlib.Core.Bool.{Bool, false, and-false}
use mathlib.Core.List.{List, [], ◌∷◌}
use native.Mathlib.Omega.{arith}
use lib.Dec.{eqb}
use lib.ListN.{length}
use Rattle.std.specs.List.{list_all, zip}
use Rattle.base.specs.Text.{same}

-- texts of one length are the same where the bytes of each pair are
pub same-pairs :
    (s t : List ℕ) {r : Bool} →
    length s ≡ length t → r ≡ list_all (λ (p : ℕ × ℕ). eqb p.0 p.1) (zip s t) → r ≡ same s t
unfolding same
same-pairs [] [] h e = e
same-pairs [] (c ∷ t) h e = absurd (omega (arith))
same-pairs (b ∷ s) [] h e = absurd (omega (arith))
same-pairs (b ∷ s) (c ∷ t) h e = e ∙ rw (same-pairs s t (omega (arith)) refl)

-- texts of two lengths are not
pub other-length : (s t : List ℕ) → (length s ≡ length t → ⊥) → same s t ≡ false
unfolding same
other-length [] [] h = absurd (h refl)
other-length [] (c ∷ t) h = refl
other-length (b ∷ s) [] h = refl
other-length (b ∷ s) (c ∷ t) h = rw (other-length s t (λ e. h (omega (arith, e)))) (and-false (eqb b c))
