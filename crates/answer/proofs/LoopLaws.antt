-- The loops of counting and of writing an answer's rows, which stand in a run of cells. Assumes nothing.
use Prim.Native.Nat.{ℕ, ◌+◌, ◌-◌, ◌≤◌, ◌<◌}
use mathlib.Core.Path.{◌≡◌}
use mathlib.Core.List.{List, ◌++◌}
use native.Mathlib.Omega.{arith}
use lib.ListN.{length, take, drop}
use Rattle.base.specs.Text.{together}
use Rattle.base.specs.promises.Writing.{Wrote}
use Rattle.base.proofs.Together.{Counting, count_next, count-over, Writing, writing-room, writing-next, writing-over}
use Rattle.cells.proofs.RowViews.{answer-next, answer-length}
use Rattle.cells.specs.promises.Views.{answer_rows, answer_at}
use Rattle.outcome.specs.Answer.{line, answer_text}
use Rattle.outcome.proofs.TextLengths.{text-length}
use Rattle.answer.specs.promises.Lengths.{LineLength, most_line}

-- the header record
abbrev pub header_bytes : ℕ
header_bytes = 47

module _ (n : ℕ) (cs : List ℕ) where
  abbrev pub RowsCounted : ℕ → ℕ → Type 0
  RowsCounted i at = Counting line (answer_rows n cs) header_bytes most_line i at

  pub row-counted : {i at k : ℕ} → i < n → LineLength (answer_at cs i) k → RowsCounted i at → RowsCounted (i + 1) (at + k)
  row-counted {i} h l c = count_next line (answer_rows n cs) (answer-next n cs i h) l.counted l.most c

  pub all-counted : {i at : ℕ} → n ≤ i → RowsCounted i at → at ≡ length (answer_text (answer_rows n cs))
  all-counted {i} h c =
      let few : length (answer_rows n cs) ≤ i = omega (arith, answer-length n cs) in
      omega (arith, text-length (answer_rows n cs), count-over line (answer_rows n cs) few c)

  module _ (old : List ℕ) (fits : length (together line (answer_rows n cs)) ≤ length old) where
    pub row_room :
        {i at : ℕ} {new : List ℕ} → i < n → Writing line (answer_rows n cs) old i at new →
        at + length (line (answer_at cs i)) ≤ length new
    row_room {i} h w = writing-room line (answer_rows n cs) old fits (answer-next n cs i h) w

    pub row_written :
        {i at k : ℕ} {new part : List ℕ} → i < n → Writing line (answer_rows n cs) old i at new →
        Wrote (line (answer_at cs i)) k (take (length new - at) (drop at new)) part →
        Writing line (answer_rows n cs) old (i + 1) (at + k) (take at new ++ (part ++ drop (length new - at) (drop at new)))
    row_written {i} h w more = writing-next line (answer_rows n cs) old fits (answer-next n cs i h) w more

  pub all-written :
      {old new : List ℕ} {i at : ℕ} → n ≤ i → Writing line (answer_rows n cs) old i at new →
      Wrote (together line (answer_rows n cs)) at old new
  all-written h w = writing-over line (answer_rows n cs) (omega (arith, answer-length n cs)) w
