-- The limits under which the test takes the amounts of the parties. Assumes nothing.
use Prim.Native.Nat.{ℕ, ◌≤◌}
use mathlib.Core.Path.{◌≡◌, refl}
use mathlib.Core.Bool.{false}
use mathlib.Core.List.{List, [], ◌∷◌, map, Memᴰ}
use native.Mathlib.Omega.{arith}
use lib.ListN.{length, length-map}
use borrow.Author.Tests.{le-ltb}
use Rattle.tables.specs.promises.Ranges.{PermittedSupply}
use Rattle.tables.specs.Rows.{SupplyRow}
use Rattle.pivotal.specs.Test.{most_amount, too_large}
use Rattle.pivotal.proofs.Limits.{Limited}
use Rattle.offers.proofs.RangeLaws.{supply-of-small}
use Rattle.market.specs.Parties.{parties, relevant_of, amount_of, amounts}

map-small : (f : ℕ → ℕ) → ((k : ℕ) → f k ≤ most_amount) → (ks : List ℕ) → too_large (map f ks) ≡ false
unfolding too_large
map-small f h [] = refl
map-small f h (k ∷ ks) = rw (le-ltb most_amount (f k) (h k)) (map-small f h ks)

-- the test takes the amounts of up to 32 parties
pub amounts-limited :
    (cutoff : ℕ) (q : SupplyRow) (rows : List SupplyRow) → ((r : SupplyRow) → Memᴰ r rows → PermittedSupply r) →
    length rows ≤ 256 → length (parties rows) ≤ 32 → Limited (amounts cutoff q rows)
unfolding amounts amount_of
amounts-limited cutoff q rows h few of-few =
    record {
      few = rw length-map of-few;
      small = map-small (amount_of cutoff q rows) (λ k. omega (arith, supply-of-small (relevant_of cutoff q k) rows h)) (parties rows);
    }
