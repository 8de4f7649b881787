-- A schedule's key. Assumes nothing.
use Prim.Native.Nat.{◌%◌}
use native.Mathlib.Omega.{arith}
use Rattle.curves.proofs.keys.own_key.Goals as goal

pub overflow_cast-number : goal.overflow_cast-number
overflow_cast-number c = omega (arith, c.shared_slice_known-1.given (c.args.unit % 10240))
