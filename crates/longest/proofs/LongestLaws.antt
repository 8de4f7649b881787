-- An answer whose rows have no larger numbers than the widest row is no longer than the longest. Assumes nothing.
use Prim.Native.Nat.{ℕ, zero, suc, ◌≤◌}
use mathlib.Core.List.{List, ◌∷◌}
use native.Mathlib.Omega.{arith}
use lib.ListN.{length, replicate, length-append}
use Rattle.base.specs.Search.{All, all_none, all_more}
use Rattle.base.specs.Text.{together}
use Rattle.numeral.proofs.Laws.{length-longer}
use Rattle.tables.specs.declared.answer.AnswerRow.{AnswerRow}
use Rattle.supply.specs.Supply.{most_units}
use Rattle.outcome.specs.Answer.{line, answer_text}
use Rattle.outcome.proofs.TextLengths.{line-length, text-length}
use Rattle.longest.specs.Longest.{widest_row, longest}

-- the numbers of a row are at most those of the widest
pub record Ranged (r : AnswerRow) : Type 0 where
  pub unit : r.unit ≤ widest_row.unit
  pub supplier : r.supplier ≤ widest_row.supplier
  pub left : r.left ≤ widest_row.left
  pub schedule : r.schedule ≤ widest_row.schedule
  pub cost : r.cost ≤ widest_row.cost

line-most : (r : AnswerRow) → Ranged r → length (line r) ≤ length (line widest_row)
line-most r g =
    omega (
      arith,
      line-length r,
      line-length widest_row,
      length-longer r.unit widest_row.unit g.unit,
      length-longer r.supplier widest_row.supplier g.supplier,
      length-longer r.left widest_row.left g.left,
      length-longer r.schedule widest_row.schedule g.schedule,
      length-longer r.cost widest_row.cost g.cost,
    )

lines-most : (n : ℕ) {rs : List AnswerRow} → All Ranged rs → length rs ≤ n → length (together line rs) ≤ length (together line (replicate n widest_row))
unfolding together
lines-most n all_none few = omega arith
lines-most zero (all_more g a) few = absurd (omega arith)
lines-most (suc n) {rs = r ∷ rs} (all_more g a) few =
    omega (
      arith,
      length-append (line r) (together line rs),
      length-append (line widest_row) (together line (replicate n widest_row)),
      line-most r g,
      lines-most n a (omega arith),
    )

pub answer-most : {rs : List AnswerRow} → All Ranged rs → length rs ≤ most_units → length (answer_text rs) ≤ longest
unfolding longest
answer-most {rs} a few =
    omega (arith, text-length rs, text-length (replicate most_units widest_row), lines-most most_units a few)
