-- The suppliers of units as the supply file has them, beside rows that were decided by groups. Assumes nothing.
use Rattle.std.specs.Prelude.{ℕ, ◌≡◌, List, [], ◌∷◌, take}
use Rattle.tables.specs.Rows.{SupplyRow}
use Rattle.tables.specs.declared.answer.AnswerRow.{AnswerRow}
use Rattle.cells.specs.promises.Views.{answer_rows}
use Rattle.outcome.specs.Decision.{unit_row}

abbrev pub supplier_of : List SupplyRow → ℕ → ℕ
supplier_of rows u = (unit_row rows u).supplier

-- a row with another supplier
abbrev pub named : ℕ → AnswerRow → AnswerRow
named s r =
    record {
      unit = r.unit;
      supplier = s;
      verdict = r.verdict;
      left = r.left;
      schedule = r.schedule;
      kind = r.kind;
      cost = r.cost;
    }

-- rows with these suppliers, one for each
unfoldable pub all_named : List ℕ → List AnswerRow → List AnswerRow
all_named [] rs = []
all_named (s ∷ ss) [] = []
all_named (s ∷ ss) (r ∷ rs) = named s r ∷ all_named ss rs

-- the first k rows of an answer in a run of cells are named so
pub record RowsNamed (suppliers : List ℕ) (k : ℕ) (old new : List ℕ) : Type 0 where
  pub rows : answer_rows k new ≡ all_named (take k suppliers) (answer_rows k old)
  pub none : k ≡ 0 → new ≡ old
