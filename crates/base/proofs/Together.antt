-- Texts one behind the other: their lengths, and the loops that count their bytes and that write them, one a turn. Assumes nothing.
use Prim.Native.Nat.{ℕ, zero, suc, ◌+◌, ◌-◌, ◌*◌, ◌≤◌, ◌<◌}
use mathlib.Core.Path.{◌≡◌, refl, sym, ◌∙◌, ap}
use mathlib.Core.List.{List, [], ◌∷◌, ◌++◌, append_assoc, append-nil}
use native.Mathlib.Numerals.{add-one}
use native.Mathlib.Omega.{arith}
use lib.ListN.{length, take, drop, set, take-append-drop, length-append, length-set}
use lib.Seq.{take_all}
use Rattle.base.specs.Text.{together}
use Rattle.base.specs.promises.Writing.{Wrote}
use Rattle.base.proofs.Lists.{drop-end}
use Rattle.base.proofs.Writers.{wrote_none, wrote-next, wrote-byte, wrote-length}

take_next : {A : Type 0} (i : ℕ) (s : List A) {x : A} {t : List A} → drop i s ≡ x ∷ t → take (suc i) s ≡ take i s ++ x ∷ []
take_next zero [] e = let z : ◌≡◌ {A = ℕ} 0 1 = cc in absurd (omega arith)
take_next zero (y ∷ ys) e = cc
take_next (suc i) [] e = let z : ◌≡◌ {A = ℕ} 0 1 = cc in absurd (omega arith)
take_next (suc i) (y ∷ ys) e = ap (λ l. y ∷ l) (take_next i ys e)

module _ {A : Type 0} (text : A → List ℕ) where
  pub together-append : (xs ys : List A) → together text (xs ++ ys) ≡ together text xs ++ together text ys
  unfolding together
  together-append [] ys = refl
  together-append (x ∷ xs) ys =
      rw (together-append xs ys) (sym (append_assoc (text x) (together text xs) (together text ys)))

  together-one : (x : A) → together text (x ∷ []) ≡ text x
  unfolding together
  together-one x = append-nil (text x)

  module _ (xs : List A) where
    -- the texts of the elements before a place
    abbrev pub before : ℕ → List ℕ
    before i = together text (take i xs)

    module _ (i : ℕ) {x : A} (here : drop i xs ≡ x ∷ drop (i + 1) xs) where
      before-next : before (i + 1) ≡ before i ++ text x
      before-next = rw (add-one i, take_next i xs here, together-append (take i xs) (x ∷ []), together-one x)

      -- the text of one more element has room where all have
      before-room : length (before i) + length (text x) ≤ length (together text xs)
      before-room =
          omega (
            arith,
            ap length before-next,
            length-append (before i) (text x),
            ap (λ l. length (together text l)) (take-append-drop (i + 1) xs),
            ap length (together-append (take (i + 1) xs) (drop (i + 1) xs)),
            length-append (before (i + 1)) (together text (drop (i + 1) xs)),
          )

      rest-length : length (together text (drop i xs)) ≡ length (text x) + length (together text (drop (i + 1) xs))
      unfolding together
      rest-length = rw here (length-append (text x) (together text (drop (i + 1) xs)))

    rest-none : (i : ℕ) → length xs ≤ i → length (together text (drop i xs)) ≡ 0
    unfolding together
    rest-none i h = rw (drop-end i xs h)

    before-all : (i : ℕ) → length xs ≤ i → before i ≡ together text xs
    before-all i h = rw (take_all i xs h)

    -- from a start on, the bytes counted and those of the elements to come are all; none has more than `most`
    pub record Counting (start most i at : ℕ) : Type 0 where
      pub counted : at + length (together text (drop i xs)) ≡ start + length (together text xs)
      pub bounded : at ≤ start + i * most

    pub count_none : (start most : ℕ) → Counting start most 0 start
    count_none start most = record { counted = refl; bounded = omega arith }

    pub count_next :
        {start most i at k : ℕ} {x : A} → drop i xs ≡ x ∷ drop (i + 1) xs → k ≡ length (text x) → k ≤ most →
        Counting start most i at → Counting start most (i + 1) (at + k)
    count_next {i} here e m c =
        record { counted = omega (arith, rest-length i here, c.counted); bounded = omega (arith, c.bounded) }

    pub count-over :
        {start most i at : ℕ} → length xs ≤ i → Counting start most i at → at ≡ start + length (together text xs)
    count-over {i} h c = omega (arith, rest-none i h, c.counted)

    -- the texts of the elements before i stand at the start of the buffer
    pub record Writing (old : List ℕ) (i at : ℕ) (new : List ℕ) : Type 0 where
      pub wrote : Wrote (before i) at old new
      pub same_length : length new ≡ length old

    pub writing-none : (old : List ℕ) → Writing old 0 0 old
    unfolding together
    writing-none old = record { wrote = wrote_none old; same_length = refl }

    module _ (old : List ℕ) (fits : length (together text xs) ≤ length old) where
      pub writing-room :
          {i at : ℕ} {new : List ℕ} {x : A} → drop i xs ≡ x ∷ drop (i + 1) xs → Writing old i at new →
          at + length (text x) ≤ length new
      writing-room {i} here w = omega (arith, before-room i here, w.wrote.counted, w.same_length)

      pub writing-next :
          {i at k : ℕ} {new part : List ℕ} {x : A} → drop i xs ≡ x ∷ drop (i + 1) xs → Writing old i at new →
          Wrote (text x) k (take (length new - at) (drop at new)) part →
          Writing old (i + 1) (at + k) (take at new ++ (part ++ drop (length new - at) (drop at new)))
      writing-next {i} {x} here w more =
          let next = wrote-next w.wrote more in
          record {
            wrote = rw (before-next i here) next;
            same_length = wrote-length next (omega (arith, before-room i here, length-append (before i) (text x)));
          }

      -- an element of no text, and one of a single byte
      pub writing-nothing :
          {i at : ℕ} {new : List ℕ} {x : A} → drop i xs ≡ x ∷ drop (i + 1) xs → text x ≡ [] → Writing old i at new →
          Writing old (i + 1) at new
      writing-nothing {i} here e w =
          record { wrote = rw (before-next i here, e, append-nil (before i)) w.wrote; same_length = w.same_length }

      pub writing-byte :
          {i at : ℕ} {new : List ℕ} {x : A} (b : ℕ) → drop i xs ≡ x ∷ drop (i + 1) xs → text x ≡ b ∷ [] → Writing old i at new →
          Writing old (i + 1) (at + 1) (set new at b)
      writing-byte {i} {at} {new} {x} b here e w =
          let fits : at < length new = omega (arith, before-room i here, ap length e, w.wrote.counted, w.same_length) in
          record {
            wrote = rw (before-next i here, e) (wrote-byte b fits w.wrote);
            same_length = length-set new at b ∙ w.same_length;
          }

    pub writing-over : {old new : List ℕ} {i at : ℕ} → length xs ≤ i → Writing old i at new → Wrote (together text xs) at old new
    writing-over {i} h w = rw (before-all i h) at w.wrote
