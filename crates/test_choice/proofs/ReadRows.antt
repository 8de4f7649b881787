-- The cells of a schedules file that was read are rows within the table's ranges. Assumes nothing.
use Rattle.std.specs.Prelude.{Ok, Result}
use Rattle.tables.specs.declared.files.Refusal.{Refusal}
use Prim.Native.Nat.{ℕ, ◌≤◌}
use mathlib.Core.Path.{◌≡◌}
use mathlib.Core.List.{List}
use native.Mathlib.Omega.{arith}
use lib.ListN.{length}
use Rattle.base.proofs.Elements.{all-mem}
use Rattle.tables.specs.promises.Laying.{room, FileRead}
use Rattle.tables.specs.declared.files.File.TheVariants.{Schedules}
use Rattle.checking.proofs.Rooms.{schedules-room}
use Rattle.checking.proofs.AloneLaws.{schedules-fit, schedules-in-ranges}
use Rattle.choice.specs.promises.Ranges.{ScheduleCells}

pub room-enough : (n : ℕ) → 9216 ≤ n → room Schedules ≤ n
room-enough n h = omega (arith, schedules-room)

pub read-rows :
    (s old new : List ℕ) (r : Result ℕ Refusal) (n : ℕ) → FileRead Schedules s old new r → r ≡ Ok n → 9216 ≤ length new → ScheduleCells n new
read-rows s old new r n w e h =
    let fits = schedules-fit s old new r w n e (room-enough _ h) in
    record {
      few = fits.0;
      room = fits.1;
      ranged = λ q m. all-mem (schedules-in-ranges s old new r w n e) m;
    }
