-- A rule that is broken, and one that is kept. Assumes nothing.
use Rattle.std.specs.Prelude.{None, Some}
use Prim.Native.Nat.{ℕ}
use mathlib.Core.Path.{◌≡◌}
use mathlib.Core.Bool.{Bool, true, false}
use Rattle.tables.specs.Refusals.{bare_refusal, unless}

pub unless-broken : (kept : Bool) (n : ℕ) → kept ≡ false → unless kept n ≡ Some (bare_refusal n)
unfolding unless
unless-broken kept n e = simp e

pub unless-kept : (kept : Bool) (n : ℕ) → kept ≡ true → unless kept n ≡ None
unfolding unless
unless-kept kept n e = simp e
