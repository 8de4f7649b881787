-- The unit of a supply row is among the units of the file, and so is one that some row has. Assumes nothing.
use Prim.Native.Nat.{ℕ}
use mathlib.Core.Path.{◌≡◌, refl, sym, ◌∙◌}
use mathlib.Core.Bool.{true}
use mathlib.Core.List.{List, [], ◌∷◌, Memᴰ as Among}
use lib.Dec.{eqb}
use borrow.Author.Tests.{eq-eqb, eqb-true}
use Rattle.base.specs.Rising.{among}
use Rattle.base.specs.Search.{any}
use Rattle.base.proofs.Elements.{any-mem}
use Rattle.tables.specs.Rows.{SupplyRow}
use Rattle.supply.specs.Supply.{units}
use Rattle.supply.proofs.UnitLaws.{among-units}
use Rattle.base.proofs.SearchLaws.{mem-any}
use Rattle.outcome.specs.Decision.{of_unit}

-- the test of being among some numbers is that of any of them being the one
among-any : (x : ℕ) (xs : List ℕ) → among x xs ≡ any (λ (y : ℕ). eqb x y) xs
unfolding among any
among-any x [] = refl
among-any x (y ∷ ys) = rw (among-any x ys)

test-among : (x : ℕ) (xs : List ℕ) → among x xs ≡ true → Among x xs
test-among x xs e =
    let found = any-mem (λ (y : ℕ). eqb x y) xs (sym (among-any x xs) ∙ e) in
    rw (eqb-true x found.0 found.2) found.1

pub unit-listed : (supply : List SupplyRow) (u : ℕ) → any (of_unit u) supply ≡ true → Among u (units supply)
unfolding of_unit
unit-listed supply u e = test-among u (units supply) (among-units u supply ∙ e)

pub row-has-unit : (supply : List SupplyRow) (w : SupplyRow) → Among w supply → Among w.unit (units supply)
unfolding of_unit
row-has-unit supply w m = unit-listed supply w.unit (mem-any (of_unit w.unit) m (eq-eqb w.unit w.unit refl))
