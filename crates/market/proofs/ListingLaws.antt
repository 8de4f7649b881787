-- Laws of listing parties, one row after the other, and of writing an amount for each, over plain lists. Assumes nothing.
use Prim.Native.Nat.{ℕ, suc, ◌+◌, ◌≤◌, ◌<◌}
use mathlib.Core.Path.{◌≡◌, refl, sym, ◌∙◌, ap}
use mathlib.Core.List.{List, [], ◌∷◌, ◌++◌, map, map-append}
use native.Mathlib.Omega.{arith}
use native.Mathlib.Numerals.{add-one}
use lib.ListN.{length, get_or, take, drop, set, length-drop, length-append, length-set, length-map}
use lib.Seq.{length-take-le, take-suc, take_at, set_at, append_snoc}
use Rattle.base.specs.promises.Writing.{Wrote}
use Rattle.base.proofs.Writers.{wrote-front, wrote-over}
use Rattle.base.proofs.Lists.{drop-next}
use Rattle.base.proofs.RisingLaws.{inserted-least}
use Rattle.numbers.specs.Numbers.{numbers_from, numbers_of}
use Rattle.numbers.proofs.NumberLaws.{numbers-least}
use Rattle.base.specs.Rising.{inserted}
use Rattle.cells.specs.promises.Views.{supply_at}
use Rattle.market.specs.Parties.{party, parties}
use Rattle.offers.proofs.CellLaws.{rows_next, rows_end}
use Rattle.tables.specs.promises.FlatRows.{supply_rows}

-- of n rows the first i have been passed, and their parties stand at the start of what is written
pub record Listing (n : ℕ) (cells old new : List ℕ) (i count : ℕ) : Type 0 where
  pub upto : i ≤ n
  pub known : List ℕ
  pub wrote : Wrote known count old new
  pub so_far : parties (supply_rows n cells) ≡ numbers_from party known (drop i (supply_rows n cells))
  pub room : length (parties (supply_rows n cells)) < length old

pub listing_none :
    (n : ℕ) (cells old : List ℕ) → length (parties (supply_rows n cells)) < length old → Listing n cells old old 0 0
unfolding parties numbers_of
listing_none n cells old h =
    record {
      upto = omega arith;
      known = [];
      wrote = record { counted = refl; written = refl };
      so_far = refl;
      room = h;
    }

module _ (n : ℕ) (cells old new : List ℕ) (i count : ℕ) (l : Listing n cells old new i count) where
  known-fits : length l.known < length old
  known-fits = omega (arith, l.room, ap length l.so_far, numbers-least party l.known (drop i (supply_rows n cells)))

  pub listing-length : length new ≡ length old
  listing-length =
      rw l.wrote.written
      (length-append l.known (drop (length l.known) old) ∙ omega (arith, known-fits, length-drop (length l.known) old))

  pub listing-room : count < length new
  listing-room = omega (arith, known-fits, listing-length, l.wrote.counted)

  -- the next row, whose party is k
  pub listing-next :
      (k : ℕ) → i < n → k ≡ party (supply_at cells i) → (r : ℕ) (newer : List ℕ) →
      Wrote (inserted k (take count new)) r new newer → Listing n cells old newer (i + 1) r
  unfolding numbers_from
  listing-next k h e r newer w =
      record {
        upto = omega arith;
        known = inserted k l.known;
        wrote = wrote-over l.wrote (inserted-least k l.known) (rw (wrote-front l.wrote) at w);
        so_far = l.so_far ∙ rw (rows_next n cells i h, e);
        room = l.room;
      }

  pub listing-over : n ≤ i → Wrote (parties (supply_rows n cells)) count old new
  unfolding numbers_from
  listing-over h =
      let all : l.known ≡ parties (supply_rows n cells) = sym (l.so_far ∙ rw (rows_end n cells i h)) in
      rw all at l.wrote

-- of some numbers the first i have what f gives of them written at the start
pub record Filling {A : Type 0} (f : ℕ → A) (ks : List ℕ) (old new : List A) (i : ℕ) : Type 0 where
  pub same_length : length new ≡ length old
  pub filled : new ≡ map f (take i ks) ++ drop i old

module _ {A : Type 0} (f : ℕ → A) (ks : List ℕ) (old : List A) where
  pub filling-none : Filling f ks old old 0
  filling-none = record { same_length = refl; filled = refl }

  pub filling-next :
      (new : List A) (i : ℕ) (a : A) → i < length ks → i < length old → a ≡ f (get_or ks i 0) → Filling f ks old new i →
      Filling f ks old (set new i a) (i + 1)
  filling-next new i a h k e l =
      record { same_length = length-set new i a ∙ l.same_length; filled = stored }
    where
      before : List A
      before = map f (take i ks)

      front : length before ≡ i
      front = length-map (take i ks) f ∙ length-take-le i ks (omega arith)

      stored : set new i a ≡ map f (take (i + 1) ks) ++ drop (i + 1) old
      stored =
          rw (l.filled, drop-next (f 0) i old k, set_at before (get_or old i (f 0)) (drop (i + 1) old) a i front)
          (rw (add-one, take-suc ks i 0 h, map-append f (take i ks) (get_or ks i 0 ∷ []), e) (sym (append_snoc before (f (get_or ks i 0)) (drop (suc i) old))))

  pub filling-over :
      (new : List A) (i k : ℕ) → i ≡ k → k ≤ length ks → Filling f ks old new i → take k new ≡ map f (take k ks)
  filling-over new i k e h l =
      let all : new ≡ map f (take k ks) ++ drop k old = rw e at l.filled in
      rw all (take_at (map f (take k ks)) (drop k old) k (length-map (take k ks) f ∙ length-take-le k ks h))
