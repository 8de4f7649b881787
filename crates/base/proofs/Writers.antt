-- Laws of writers into a lent buffer: two writes, one behind the other, are one, a text goes into the rest that is lent, a byte goes
-- behind a text, and a longer text written over a shorter one leaves nothing of it. Assumes nothing.
use Prim.Native.Nat.{ℕ, ◌+◌, ◌-◌, ◌≤◌, ◌<◌}
use mathlib.Core.Path.{◌≡◌, refl, sym, ◌∙◌, ap}
use mathlib.Core.List.{List, [], ◌∷◌, ◌++◌, append_assoc, append-nil}
use native.Mathlib.Numerals.{add-one}
use native.Mathlib.Omega.{arith}
use lib.ListN.{length, take, drop, set, length-append, length-drop}
use lib.Seq.{drop-drop, take-append_seam, drop-append_seam, drop-append-add, take_at, set_split}
use Rattle.base.specs.promises.Writing.{Wrote}
use Rattle.base.proofs.Lists.{rest-lent, rest_back}

joined :
    (a b old : List ℕ) →
    take (length a) (a ++ drop (length a) old) ++ (b ++ drop (length b) (drop (length a) (a ++ drop (length a) old)))
    ≡ (a ++ b) ++ drop (length (a ++ b)) old
joined a b old = simp (take-append_seam, drop-append_seam, drop-drop, length-append, append_assoc)

-- a second text is written into the rest of the buffer, and the rest is put back
pub wrote_then :
    {a b old mid part new : List ℕ} {m n : ℕ} →
    Wrote a m old mid → Wrote b n (drop m mid) part → new ≡ take m mid ++ part → Wrote (a ++ b) (m + n) old new
wrote_then {a} {b} {old} {mid} {part} {new} {m} {n} u v e =
    record {
      counted = rw (u.counted, v.counted) (sym (length-append a b));
      written = e ∙ rw (v.written, u.counted, u.written) (joined a b old);
    }

behind : (a old : List ℕ) (k : ℕ) → length a ≤ k → drop k (a ++ drop (length a) old) ≡ drop k old
behind a old k h =
    let split : k ≡ length a + (k - length a) = omega arith in
    rw split (drop-append-add a (drop (length a) old) (k - length a) ∙ drop-drop (k - length a) (length a) old)

-- what stands at the start
pub wrote-front : {text old new : List ℕ} {m : ℕ} → Wrote text m old new → take m new ≡ text
wrote-front {text} {old} {new} {m} w =
    rw w.written (take_at text (drop (length text) old) m (sym w.counted))

-- a second text is written over the first, and is no shorter
pub wrote-over :
    {a b old mid new : List ℕ} {m n : ℕ} → Wrote a m old mid → length a ≤ length b → Wrote b n mid new → Wrote b n old new
wrote-over {a} {b} {old} u h v =
    record { counted = v.counted; written = v.written ∙ rw (u.written, behind a old (length b) h) }

-- nothing is written
pub wrote_none : (old : List ℕ) → Wrote [] 0 old old
wrote_none old = record { counted = refl; written = refl }

-- a text is written into the rest of the buffer, which is lent and comes back
pub wrote-next :
    {a b old mid part : List ℕ} {m n : ℕ} →
    Wrote a m old mid → Wrote b n (take (length mid - m) (drop m mid)) part →
    Wrote (a ++ b) (m + n) old (take m mid ++ (part ++ drop (length mid - m) (drop m mid)))
wrote-next {mid} {part} {m} u v =
    wrote_then u (rw (rest-lent m mid) at v) (rw (rest_back m mid, append-nil part))

-- a byte is written behind a text
pub wrote-byte :
    {a old mid : List ℕ} {m : ℕ} (b : ℕ) → m < length mid → Wrote a m old mid → Wrote (a ++ b ∷ []) (m + 1) old (set mid m b)
wrote-byte {mid} {m} b h u =
    let one : Wrote (b ∷ []) 1 (drop m mid) (b ∷ drop 1 (drop m mid)) = record { counted = refl; written = refl } in
    wrote_then u one (set_split mid m b h ∙ rw (drop-drop 1 m mid, add-one m))

-- a text that fits leaves a buffer as long as it was
pub wrote-length : {text old new : List ℕ} {m : ℕ} → Wrote text m old new → length text ≤ length old → length new ≡ length old
wrote-length {text} {old} w h =
    ap length w.written ∙ length-append text (drop (length text) old) ∙ rw (length-drop (length text) old) (omega arith)
