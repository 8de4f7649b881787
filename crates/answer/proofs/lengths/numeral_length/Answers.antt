-- The length of a numeral, of 64 bits. Assumes nothing.
use Prim.Native.Nat.{ℕ}
use mathlib.Core.Path.{◌∙◌, ap}
use native.Mathlib.Omega.{arith}
use lib.ListN.{length}
use Rattle.numeral.specs.Numeral.{digits}
use Rattle.numeral.proofs.Laws.{length-u64}
use Rattle.answer.proofs.lengths.numeral_length.Goals as goal

pub returns : goal.returns
returns c =
    let n = c.cell in
    record {
      counted = c.digit_count.ensures ∙ ap (λ (i : ℕ). length (digits i)) n.ensures;
      most = omega (arith, c.digit_count.ensures, length-u64 n.result (omega arith));
    }
