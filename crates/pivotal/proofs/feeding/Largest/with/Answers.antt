-- The two largest with one amount more. Assumes nothing.
use Prim.Native.Nat.{max, min}
use mathlib.Core.Path.{◌≡◌}
use native.Mathlib.Omega.{arith}
use Rattle.pivotal.specs.Test.{largest_with}
use Rattle.pivotal.proofs.feeding.Largest.with.Goals as goal

pub returns : goal.returns
unfolding largest_with
returns c =
    let l = c.args.self in
    let second : c.max-2.result ≡ max l.second (min l.first c.args.amount) = omega (arith, c.max-2.ensures, c.min-displaced.ensures) in
    rw (c.max.ensures, second)
