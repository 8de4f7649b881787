-- A call that is lent as many bytes as the longest tidy file has is never refused for a short buffer. Assumes nothing.
use Rattle.std.specs.Prelude.{None, Option, Some}
use Prim.Native.Nat.{ℕ, ◌≤◌}
use mathlib.Core.Path.{◌≡◌, refl, ◌∙◌}
use mathlib.Core.List.{List}
use native.Mathlib.Omega.{arith}
use lib.ListN.{length}
use borrow.Author.Tests.{le-leb}
use Rattle.base.specs.Search.{first_of}
use Rattle.base.proofs.FirstLaws.{first-of-one, first-of-part, first-of-rest}
use Rattle.tables.specs.Refusals.{unless}
use Rattle.tables.specs.declared.files.File.{File}
use Rattle.tables.specs.declared.files.Refusal.{Refusal}
use Rattle.checking.specs.Files.{alone_refusals}
use Rattle.tidy.specs.Longest.{longest_tidy}
use Rattle.tidy.specs.Tidy.{tidy_of, short_for_tidy, tidy_refusals}
use Rattle.tidy.proofs.LongestLaws.{rows-longest}
use Rattle.tidy.proofs.TidyRows.{alone-allowed}

module _ (f : File) (s : List ℕ) (room : ℕ) (enough : longest_tidy f ≤ room) where
  not_short : first_of (alone_refusals f s) ≡ None → short_for_tidy (tidy_of f s) room ≡ None
  unfolding short_for_tidy unless tidy_of
  not_short e = rw (le-leb (length (tidy_of f s)) room (omega (arith, rows-longest f (alone-allowed f s e))))

  pub never-30 : first_of (tidy_refusals f s room) ≡ first_of (alone_refusals f s)
  unfolding tidy_refusals
  never-30 = go (first_of (alone_refusals f s)) refl
    where
      go : (o : Option Refusal) → first_of (alone_refusals f s) ≡ o → first_of (tidy_refusals f s room) ≡ o
      go None e =
          first-of-rest (alone_refusals f s) _ e ∙ first-of-one (short_for_tidy (tidy_of f s) room) ∙ not_short e
      go (Some r) e = first-of-part (alone_refusals f s) _ r e
