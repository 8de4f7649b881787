-- Laws of the units of supply rows: they rise, and a number is among them where some row has it. Assumes nothing.
use Prim.Native.Nat.{ℕ, ◌≤◌}
use mathlib.Core.Path.{◌≡◌}
use mathlib.Core.List.{List}
use lib.Dec.{eqb}
use Rattle.base.specs.Rising.{among, RisingFrom}
use Rattle.base.specs.Search.{any, All}
use Rattle.numbers.proofs.NumberLaws.{numbers-above, among-numbers}
use Rattle.tables.specs.Rows.{SupplyRow}
use Rattle.supply.specs.Supply.{units}

pub units-rising : {rs : List SupplyRow} → All (λ (r : SupplyRow). 1 ≤ r.unit) rs → RisingFrom 0 (units rs)
unfolding units
units-rising a = numbers-above (λ (r : SupplyRow). r.unit) a

pub among-units : (u : ℕ) (rs : List SupplyRow) → among u (units rs) ≡ any (λ (r : SupplyRow). eqb r.unit u) rs
unfolding units
among-units u rs = among-numbers (λ (r : SupplyRow). r.unit) u rs
