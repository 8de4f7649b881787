-- Demand 3: where no refusal but for 10 stands against a study, its answer file is the one text that demand 3 calls right, by
-- the study's files and the day it was given. Assumes nothing.
use Rattle.std.specs.Prelude.{None}
use Prim.Native.Nat.{ℕ}
use mathlib.Core.Path.{◌≡◌, sym, ◌∙◌, ap}
use mathlib.Core.Logic.{◌↔◌}
use mathlib.Core.List.{List}
use Rattle.base.specs.Search.{All}
use Rattle.checking.specs.Files.{Files, supply_of}
use Rattle.outcome.specs.Answer.{answer_text}
use Rattle.outcome.specs.Day.{DayView}
use Rattle.outcome.specs.Right.{RowPerUnit, RightOf, Right}
use Rattle.outcome.specs.Study.{study_rows, answer_file, decision_refusal}
use Rattle.outcome.proofs.RowLaws.{row-right, row-decided}
use Rattle.outcome.proofs.RowsToBytes.{study-rows, rows_right, rows-only}
use Rattle.outcome.proofs.Sound.{units-rise}

-- the rows of a study are right
pub study-right :
    (d : DayView) (f : Files) (e : decision_refusal d f ≡ None) →
    RowPerUnit (supply_of f.supply) (study_rows d f) × All (RightOf d f) (study_rows d f)
study-right d f e = rw (study-rows d f) (rows_right d f (units-rise d f e) (RightOf d f) (row-right d f e))

pub demand-3 :
    (d : DayView) (f : Files) → decision_refusal d f ≡ None → (text : List ℕ) →
    (text ≡ answer_file d f) ↔ Right d f text
unfolding answer_file
demand-3 d f e text = (right, only)
  where
    right : text ≡ answer_file d f → Right d f text
    right same =
        let (per-unit, every-row) = study-right d f e in
        record {
          rows = study_rows d f;
          in-layout = same;
          per-unit = per-unit;
          every-row = every-row;
        }

    only : Right d f text → text ≡ answer_file d f
    only r =
        r.in-layout
        ∙ ap answer_text
        (rows-only d f (units-rise d f e) (RightOf d f) (row-decided d f e) r.rows r.per-unit r.every-row ∙ sym (study-rows d f))
