-- A field's length, one byte a turn. Assumes nothing.
use Prim.Native.Nat.{◌+◌}
use mathlib.Core.Bool.{false}
use mathlib.Core.Path.{◌≡◌}
use lib.ListN.{drop}
use Rattle.csv_text.specs.promises.Fields.{extent}
use Rattle.csv_text.proofs.fields.field_length.Given as goal

abbrev pub invariant-loop-i : goal.invariant-loop-i
invariant-loop-i l = extent false l.s ≡ l.i + extent l.inside (drop l.i l.s)
