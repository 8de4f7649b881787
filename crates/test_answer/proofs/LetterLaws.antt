-- Rows whose letters are bytes, from a place on. Assumes nothing.
use Prim.Native.Nat.{ℕ, ◌+◌, ◌-◌, ◌≤◌, ◌<◌}
use mathlib.Core.Path.{◌≡◌}
use mathlib.Core.List.{List}
use native.Mathlib.Omega.{arith}
use lib.ListN.{drop}
use Rattle.base.proofs.Lists.{drop-end}
use Rattle.base.specs.Search.{All, all_none, all_more}
use Rattle.cells.specs.promises.Views.{answer_rows, answer_at}
use Rattle.cells.specs.promises.Letters.{Lettered}
use Rattle.cells.proofs.RowViews.{answer-next, answer-length}

module _ (n : ℕ) (cs : List ℕ) where
  pub all-from-end : All Lettered (drop n (answer_rows n cs))
  all-from-end = rw (drop-end n (answer_rows n cs) (omega (arith, answer-length n cs))) all_none

  -- one row more, in front
  pub all_from :
      (i : ℕ) → 0 < i → i ≤ n → Lettered (answer_at cs (i - 1)) → All Lettered (drop i (answer_rows n cs)) →
      All Lettered (drop (i - 1) (answer_rows n cs))
  all_from i some h l a =
      let behind : i - 1 + 1 ≡ i = omega arith in
      rw (answer-next n cs (i - 1) (omega arith), behind) (all_more l a)
