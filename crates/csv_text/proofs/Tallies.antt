-- Laws of the scan's tally: one byte after the other, and counts that the bytes bound. Assumes nothing.
use Prim.Native.Nat.{ℕ, ◌+◌, ◌≤◌, ◌<◌}
use mathlib.Core.Path.{◌≡◌}
use mathlib.Core.Bool.{Bool, true, false, cond, ◌&&◌}
use mathlib.Core.List.{List}
use native.Mathlib.Omega.{arith}
use lib.Dec.{eqb}
use lib.ListN.{length, get_or, drop}
use Rattle.base.proofs.Lists.{drop-next, drop-end}
use Rattle.base.proofs.Searches.{one-le}
use Rattle.csv_text.specs.Records.{next}
use Rattle.csv_text.specs.promises.Scan.{Tally, over, inside_field, separates, at_end, step, tally}

module _ (width : ℕ) where
  pub tally-next : (t : Tally) (s : List ℕ) (i : ℕ) → i < length s → tally width t (drop i s) ≡ tally width (step width t (get_or s i 0)) (drop (i + 1) s)
  unfolding tally
  tally-next t s i h = rw (drop-next 0 i s h)

  pub tally-end : (t : Tally) (s : List ℕ) (i : ℕ) → length s ≤ i → tally width t (drop i s) ≡ t
  unfolding tally
  tally-end t s i h = rw (drop-end i s h)

-- after n bytes
pub record Bounded (n : ℕ) (t : Tally) : Type 0 where
  pub fields : t.fields ≤ n + 1
  pub records : t.records ≤ n
  pub fitting : t.fitting ≤ n

pub step-bounded : (width n b : ℕ) (t : Tally) → Bounded n t → Bounded (n + 1) (step width t b)
unfolding step
step-bounded width n b t h = go (at_end t.state)
  where
    go : (e : Bool) → Bounded (n + 1) (cond e (over width (next t.state b) t) (inside_field b t))
    go true = unfold over in omega (arith, one-le (eqb t.fitting t.records && eqb width t.fields))
    go false = unfold inside_field in omega (arith, one-le (separates t.state b))
