-- A file without its quotes is its records, unquoted, where no value needs quotes. Assumes nothing.
use Prim.Native.Nat.{ℕ, zero, suc, ◌+◌, ◌-◌, ◌≤◌}
use mathlib.Core.Path.{◌≡◌, refl, sym, ◌∙◌, ap}
use mathlib.Core.Bool.{Bool, true, false, cond}
use mathlib.Core.List.{List, [], ◌∷◌, ◌++◌, append_assoc, append-nil}
use native.Mathlib.Omega.{arith}
use lib.Dec.{eqb}
use lib.ListN.{length, get_or, set, drop, length-append}
use lib.Seq.{get_or-append-add}
use Rattle.base.specs.Search.{All, all_none, all_more}
use Rattle.base.specs.Text.{together}
use borrow.Author.Tests.{ne_eqb}
use Rattle.base.proofs.Tests.{and-fst, and-snd, false-true}
use Rattle.csv_text.specs.Grammar.{TEXTDATA, NonEscaped, Opened, Escaped, Field, Record, File}
use Rattle.csv_text.specs.Records.{textdata}
use Rattle.csv_text.specs.Bytes.{COMMA, CR, DQUOTE, LF}
use Rattle.csv_text.specs.promises.Plain.{all_text, all_texts}
use Rattle.csv_text.proofs.Steps.{text-not}
use Rattle.tables.specs.Table.{joined, record_text}
use Rattle.tidy.specs.promises.Copying.{kept, unquoted, last_end, copied}

-- a quote is dropped, any other byte is kept
pub quote-dropped : (b : ℕ) → b ≡ DQUOTE → kept b ≡ []
unfolding kept
quote-dropped b e = rw e

pub byte-kept : (b : ℕ) → (b ≡ DQUOTE → ⊥) → kept b ≡ b ∷ []
unfolding kept
byte-kept b n = simp (ne_eqb b DQUOTE n)

pub kept-short : (b : ℕ) → length (kept b) ≤ 1
unfolding kept
kept-short b = go (eqb b DQUOTE)
  where
    go : (t : Bool) → length (cond t [] (b ∷ [])) ≤ 1
    go true = omega arith
    go false = omega arith

pub unquoted-append : (a b : List ℕ) → unquoted (a ++ b) ≡ unquoted a ++ unquoted b
unfolding unquoted together
unquoted-append [] b = refl
unquoted-append (x ∷ a) b = rw (unquoted-append a b) (sym (append_assoc (kept x) (unquoted a) (unquoted b)))

-- s is a text of a value, in quotes or not, in which no line ends, and then r
record Piece (s v r : List ℕ) : Type 0 where
  text : List ℕ
  whole : s ≡ text ++ r
  bare : unquoted text ≡ v
  unbroken : All (λ (b : ℕ). eqb b LF ≡ false) text

piece-more : {s v r : List ℕ} (b : ℕ) → TEXTDATA b → Piece s v r → Piece (b ∷ s) (b ∷ v) r
unfolding unquoted together kept
piece-more b t p =
    record {
      text = b ∷ p.text;
      whole = ap (λ (l : List ℕ). b ∷ l) p.whole;
      bare = simp (text-not t DQUOTE refl) (ap (λ (l : List ℕ). b ∷ l) p.bare);
      unbroken = all_more (text-not t LF refl) p.unbroken;
    }

piece-bare : {s v r : List ℕ} → Piece s v r → unquoted s ≡ v ++ unquoted r
piece-bare {r = r} p = ap unquoted p.whole ∙ unquoted-append p.text r ∙ rw p.bare

-- a field
opened-piece : {s v r : List ℕ} → Opened s v r → all_text v ≡ true → Piece s v r
unfolding all_text unquoted together kept
opened-piece (Opened.text {b} {v = v} t o) e = piece-more b t (opened-piece o (and-snd (textdata b) (all_text v) e))
opened-piece (Opened.comma o) e = false-true e
opened-piece (Opened.cr o) e = false-true e
opened-piece (Opened.lf o) e = false-true e
opened-piece (Opened.2dquote o) e = false-true e
opened-piece Opened.close e = record { text = DQUOTE ∷ []; whole = refl; bare = refl; unbroken = all_more refl all_none }

text-piece : {s v r : List ℕ} → NonEscaped s v r → Piece s v r
unfolding unquoted together
text-piece NonEscaped.none = record { text = []; whole = refl; bare = refl; unbroken = all_none }
text-piece (NonEscaped.text {b} t n) = piece-more b t (text-piece n)

field-piece : {s v r : List ℕ} → Field s v r → all_text v ≡ true → Piece s v r
unfolding unquoted together kept
field-piece (Field.escaped (Escaped.dquote o)) e =
    let p = opened-piece o e in
    record {
      text = DQUOTE ∷ p.text;
      whole = ap (λ (l : List ℕ). DQUOTE ∷ l) p.whole;
      bare = p.bare;
      unbroken = all_more refl p.unbroken;
    }
field-piece (Field.non-escaped n) e = text-piece n

-- a record
unquoted-comma : (l : List ℕ) → unquoted (COMMA ∷ l) ≡ COMMA ∷ unquoted l
unfolding unquoted together kept
unquoted-comma l = refl

all_append : {P : ℕ → Type 0} {xs ys : List ℕ} → All P xs → All P ys → All P (xs ++ ys)
all_append all_none b = b
all_append (all_more p a) b = all_more p (all_append a b)

joined-more : {t r : List ℕ} {vs : List (List ℕ)} (v : List ℕ) → Record t vs r → joined (v ∷ vs) ≡ v ++ COMMA ∷ joined vs
unfolding joined
joined-more v (Record.last f) = refl
joined-more v (Record.more f m) = refl

pieces-joined :
    {s v t r : List ℕ} {vs : List (List ℕ)} →
    Record t vs r → Piece s v (COMMA ∷ t) → Piece t (joined vs) r → Piece s (joined (v ∷ vs)) r
pieces-joined {v = v} {r = r} m p q =
    record {
      text = p.text ++ COMMA ∷ q.text;
      whole = p.whole ∙ ap (λ l. p.text ++ COMMA ∷ l) q.whole ∙ sym (append_assoc p.text (COMMA ∷ q.text) r);
      bare =
          unquoted-append p.text (COMMA ∷ q.text)
          ∙ rw (p.bare, unquoted-comma q.text, q.bare) (sym (joined-more v m));
      unbroken = all_append p.unbroken (all_more refl q.unbroken);
    }

record-piece : {s r : List ℕ} {vs : List (List ℕ)} → Record s vs r → all_texts vs ≡ true → Piece s (joined vs) r
unfolding all_texts joined
record-piece (Record.last {v = v} f) e = field-piece f (and-fst (all_text v) true e)
record-piece (Record.more {v = v} {vs = vs} f m) e =
    pieces-joined m (field-piece f (and-fst (all_text v) (all_texts vs) e)) (record-piece m (and-snd (all_text v) (all_texts vs) e))

-- how long
pub unquoted-shorter : (s : List ℕ) → length (unquoted s) ≤ length s
unfolding unquoted together
unquoted-shorter [] = omega arith
unquoted-shorter (b ∷ s) = omega (arith, length-append (kept b) (unquoted s), kept-short b, unquoted-shorter s)

pub copied-length : (s : List ℕ) → length (copied s) ≡ length (unquoted s) + length (last_end s)
unfolding copied
copied-length s = length-append (unquoted s) (last_end s)

pub end_short : (s : List ℕ) → length (last_end s) ≤ 2
unfolding last_end
end_short s = go (eqb (get_or s (length s - 1) 0) LF)
  where
    go : (t : Bool) → length (cond t [] (CR ∷ LF ∷ [])) ≤ 2
    go true = omega arith
    go false = omega arith

-- the end of a file
pub has_end : (s : List ℕ) → eqb (get_or s (length s - 1) 0) LF ≡ true → last_end s ≡ []
unfolding last_end
has_end s e = simp e

pub lacks-end : (s : List ℕ) → eqb (get_or s (length s - 1) 0) LF ≡ false → last_end s ≡ CR ∷ LF ∷ []
unfolding last_end
lacks-end s e = simp e

-- a line end put at the start of a buffer with room for it
pub end-put : (out : List ℕ) → 2 ≤ length out → set (set out 0 CR) 1 LF ≡ (CR ∷ LF ∷ []) ++ drop 2 out
end-put [] h = absurd (omega arith)
end-put (a ∷ []) h = absurd (omega arith)
end-put (a ∷ b ∷ out) h = refl

not-line-end : (l : List ℕ) (i : ℕ) → All (λ (b : ℕ). eqb b LF ≡ false) l → eqb (get_or l i 0) LF ≡ false
not-line-end [] i a = refl
not-line-end (x ∷ l) zero (all_more e a) = e
not-line-end (x ∷ l) (suc i) (all_more e a) = not-line-end l i a

end-behind : (a : List ℕ) (b : ℕ) (t : List ℕ) → last_end (a ++ b ∷ t) ≡ last_end (b ∷ t)
unfolding last_end
end-behind a b t =
    let last : length (a ++ b ∷ t) - 1 ≡ length a + length t = omega (arith, length-append a (b ∷ t)) in
    let here : length (b ∷ t) - 1 ≡ length t = omega arith in
    rw (last, get_or-append-add a (b ∷ t) (length t) 0, here)

line-end-kept : (l : List ℕ) → unquoted (CR ∷ LF ∷ l) ≡ CR ∷ LF ∷ unquoted l
unfolding unquoted together kept
line-end-kept l = refl

pub no_more : unquoted [] ≡ []
unfolding unquoted together
no_more = refl

ended : last_end (CR ∷ LF ∷ []) ≡ []
unfolding last_end
ended = refl

regroup : (a u e : List ℕ) → (a ++ CR ∷ LF ∷ u) ++ e ≡ (a ++ CR ∷ LF ∷ []) ++ (u ++ e)
regroup a u e = simp append_assoc

-- a file: its records, one behind the other
pub copied-records :
    {s : List ℕ} {rs : List (List (List ℕ))} → File s rs → All (λ (vs : List (List ℕ)). all_texts vs ≡ true) rs →
    copied s ≡ together record_text rs
unfolding copied together
copied-records (File.last {v = v} r) (all_more e a) =
    let p = record-piece r e in
    let same = p.whole ∙ append-nil p.text in
    rw (same, p.bare, lacks-end p.text (not-line-end p.text (length p.text - 1) p.unbroken)) (sym (append-nil (record_text v)))
copied-records (File.last-crlf {s} {v} r) (all_more e a) =
    let p = record-piece r e in
    let end : last_end s ≡ [] = ap last_end p.whole ∙ end-behind p.text CR (LF ∷ []) ∙ ended in
    rw (piece-bare p, line-end-kept [], no_more, end)
copied-records (File.more {s} {t} {b} {v} {vs} r f) (all_more e a) =
    let p = record-piece r e in
    let end : last_end s ≡ last_end (b ∷ t) =
    ap last_end p.whole ∙ end-behind p.text CR (LF ∷ b ∷ t) ∙ end-behind (CR ∷ LF ∷ []) b t
    in
    rw (piece-bare p, line-end-kept (b ∷ t), end) (regroup (joined v) (unquoted (b ∷ t)) (last_end (b ∷ t)) ∙ ap (λ l. record_text v ++ l) (copied-records f a))
