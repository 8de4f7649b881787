-- No two schedules share a key that points go by, where the units are few and rise. Assumes nothing.
use Prim.Native.Nat.{ℕ, zero, suc, ◌%◌, ◌≤◌, ◌<◌}
use mathlib.Core.Path.{◌≡◌, refl, ◌∙◌}
use mathlib.Core.Logic.{⊎_elim}
use mathlib.Core.List.{List}
use native.Mathlib.Omega.{arith}
use lib.ListN.{length, get_or, length-set}
use lib.Seq.{get_or-set_same, get_or-set_other}
use Rattle.base.specs.Rising.{RisingFrom}
use Rattle.base.proofs.RisingLaws.{rising-places}
use Rattle.base.proofs.Tests.{eq-or-ne, lt-or-ge}
use Rattle.curves.specs.promises.Keys.{unit_places, numbered, own_key}

-- no two schedules share a key where the units rise, there are no more of them than keys tell apart, and each has a place of its own
module _
    (us numbers : List ℕ) (rising : RisingFrom 0 us) (small : (i : ℕ) → i < length us → get_or us i 0 < unit_places)
    (few : length us ≤ 64) (room : unit_places ≤ length numbers)
  where
    numbered-length : (n : ℕ) → length (numbered us n numbers) ≡ length numbers
    unfolding numbered
    numbered-length zero = refl
    numbered-length (suc n) = length-set (numbered us n numbers) _ _ ∙ numbered-length n

    other_place : (i j : ℕ) → i < length us → j < length us → (i ≡ j → ⊥) → get_or us i 0 % unit_places ≡ get_or us j 0 % unit_places → ⊥
    other_place i j h k apart same =
        ⊎_elim
        (λ (b : i < j). omega (arith, same, small i h, small j k, rising-places rising i j b k))
        (λ (b : j ≤ i). omega (arith, same, small i h, small j k, rising-places rising j i (omega arith) h))
        (lt-or-ge i j)

    number_is : (n i : ℕ) → i < n → n ≤ length us → get_or (numbered us n numbers) (get_or us i 0 % unit_places) 0 ≡ i
    unfolding numbered
    number_is zero i h k = absurd (omega arith)
    number_is (suc n) i h k = ⊎_elim here (earlier (number_is n i)) (eq-or-ne i n)
      where
        here : i ≡ n → get_or (numbered us (suc n) numbers) (get_or us i 0 % unit_places) 0 ≡ i
        here e =
            rw (e, get_or-set_same (numbered us n numbers) (get_or us n 0 % unit_places) (n % 64) 0 (omega (arith, room, numbered-length n))) (omega arith)

        earlier :
            (i < n → n ≤ length us → get_or (numbered us n numbers) (get_or us i 0 % unit_places) 0 ≡ i) → (i ≡ n → ⊥) →
            get_or (numbered us (suc n) numbers) (get_or us i 0 % unit_places) 0 ≡ i
        earlier below e =
            get_or-set_other (numbered us n numbers) (get_or us n 0 % unit_places) (get_or us i 0 % unit_places) (n % 64) 0
            (other_place i n (omega arith) (omega arith) e)
            ∙ below (omega arith) (omega arith)

    pub keys-apart :
        (i j s t : ℕ) → i < length us → j < length us → s < 128 → t < 128 →
        own_key (numbered us (length us) numbers) (get_or us i 0) s ≡ own_key (numbered us (length us) numbers) (get_or us j 0) t → (i ≡ j) × (s ≡ t)
    keys-apart i j s t h k a b same =
        let first = number_is (length us) i h (omega arith) in
        let second = number_is (length us) j k (omega arith) in
        (omega (arith, same, first, second), omega (arith, same, first, second))
