-- The rows that a study decides have bytes for letters, as the writing of an answer asks. Assumes nothing.
use Prim.Native.Nat.{ℕ, ◌<◌}
use mathlib.Core.List.{List}
use native.Mathlib.Omega.{arith}
use Rattle.base.specs.Search.{All}
use Rattle.tables.specs.Rows.{SupplyRow, ScheduleRow, letter_of}
use Rattle.tables.specs.declared.constraint.ConstraintRow.{ConstraintRow}
use Rattle.tables.specs.declared.files.Kind.{Kind}
use Rattle.tables.specs.declared.files.Kind.TheVariants.{M, C}
use Rattle.supply.specs.Supply.{units}
use Rattle.market.specs.Parties.{party}
use Rattle.outcome.specs.Day.{RunningUnit}
use Rattle.outcome.specs.Decision.{unit_row, verdict_of, chosen_or, choice_of, decided_row, decided}
use Rattle.cells.specs.promises.Letters.{Lettered}
use Rattle.pivotal.specs.Test.{Verdict, U, P, F, verdict_letter}
use Rattle.outcome.proofs.StudyRows.{all_map}

verdict-byte : (v : Verdict) → verdict_letter v < 256
verdict-byte U = omega arith
verdict-byte P = omega arith
verdict-byte F = omega arith

kind-byte : (k : Kind) → letter_of k < 256
kind-byte M = omega arith
kind-byte C = omega arith

row-lettered :
    (c : ConstraintRow) (supply : List SupplyRow) (scheduled : List ScheduleRow) (running : List RunningUnit)
    (ungrouped : List SupplyRow) (u : ℕ) → Lettered (decided_row c supply scheduled running ungrouped u)
unfolding decided_row
row-lettered c supply scheduled running ungrouped u =
    record {
      verdict = verdict-byte (verdict_of c supply (party (unit_row supply u)));
      kind = kind-byte (chosen_or (choice_of c supply scheduled running u)).kind;
    }

pub decided-lettered :
    (c : ConstraintRow) (supply : List SupplyRow) (scheduled : List ScheduleRow) (running : List RunningUnit)
    (ungrouped : List SupplyRow) → All Lettered (decided c supply scheduled running ungrouped)
unfolding decided
decided-lettered c supply scheduled running ungrouped =
    all_map _ (units supply) (λ u m. row-lettered c supply scheduled running ungrouped u)
