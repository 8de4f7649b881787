-- Document 01, "Capped offer": "For an incremental cost c, the capped offer is c plus the lesser of c / 10 rounded down and
-- 10000, but at most 200000 (6.4.2)." And document 02, F-4: "Section 6.4.2 gives the adder, and the ceiling on the sum, only to 2,000
-- dollars, so above 200000 the capped offer is the incremental cost alone." Assumes nothing.
use Rattle.std.specs.Prelude.{ℕ, ◌+◌, ◌/◌, min, cond, ltb}

-- 2,000 dollars: no sum of a cost and its adder is higher, and no higher cost is given either
abbrev pub ceiling : ℕ
ceiling = 200000

-- a cost and its adder, up to the ceiling
unfoldable pub with_adder : ℕ → ℕ
with_adder c = min (c + min (c / 10) 10000) ceiling

unfoldable pub capped : ℕ → ℕ
capped c = cond (ltb ceiling c) c (with_adder c)
