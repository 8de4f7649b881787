-- The reading of RFC 4180 (`specs/Reading`) step by step: for each state and kind of byte, where the reading goes on and
-- what the byte adds to what it reads there, or that it refuses the file. Assumes nothing.
use Prim.Native.Nat.{ℕ, ◌≤◌}
use mathlib.Core.Path.{◌≡◌, refl, sym, ◌∙◌, ap}
use mathlib.Core.Logic.{◌⊎◌, inl, inr}
use mathlib.Core.Bool.{Bool, true, false, ◌&&◌, ◌||◌}
use mathlib.Core.List.{List, [], ◌∷◌}
use lib.Dec.{leb, eqb}
use borrow.Author.Tests.{leb-true, le-leb, eqb-true, ne_eqb}
use Rattle.base.proofs.Tests.{either, false-true, and-fst, and-snd}
use Rattle.csv_text.specs.Grammar.{TEXTDATA, below-quote, below-comma, above-comma}
use Rattle.csv_text.specs.Records.{State, begin, plain, quoted, closing, ended, broken, textdata, Rest, byte, comma, crlf, next, grown, regular, rest}
use Rattle.csv_text.specs.Bytes.{COMMA, CR, DQUOTE, LF}

-- a test's two outcomes
abbrev Test : Bool → Type 0
Test t = (t ≡ true) ⊎ (t ≡ false)

-- the test for TEXTDATA is true on TEXTDATA alone

abbrev within : ℕ → ℕ → ℕ → Bool
within a b c = leb a b && leb b c

within-true : {a b c : ℕ} → a ≤ b → b ≤ c → within a b c ≡ true
within-true {a} {b} {c} l h = simp (le-leb a b l, le-leb b c h)

within_low : (a b c : ℕ) → within a b c ≡ true → a ≤ b
within_low a b c e = leb-true a b (and-fst (leb a b) (leb b c) e)

within-high : (a b c : ℕ) → within a b c ≡ true → b ≤ c
within-high a b c e = leb-true b c (and-snd (leb a b) (leb b c) e)

pub textdata-holds : (b : ℕ) → textdata b ≡ true → TEXTDATA b
textdata-holds b = go (either (within 0x20 b 0x21)) (either (within 0x23 b 0x2B))
  where
    go : Test (within 0x20 b 0x21) → Test (within 0x23 b 0x2B) → textdata b ≡ true → TEXTDATA b
    go (inl e) f g = below-quote (within_low _ _ _ e) (within-high _ _ _ e)
    go (inr e) (inl f) g = below-comma (within_low _ _ _ f) (within-high _ _ _ f)
    go (inr e) (inr f) g =
        let h : within 0x2D b 0x7E ≡ true = simp (e, f) at g in
        above-comma (within_low _ _ _ h) (within-high _ _ _ h)

or_right : (a b : Bool) → b ≡ true → (a || b) ≡ true
or_right true b e = refl
or_right false b e = e

pub textdata-true : {b : ℕ} → TEXTDATA b → textdata b ≡ true
textdata-true {b} (below-quote l h) = simp (within-true l h)
textdata-true {b} (below-comma l h) = rw (or_right (within 0x20 b 0x21) _ (within-true l h))
textdata-true {b} (above-comma l h) = or_right (within 0x20 b 0x21 || within 0x23 b 0x2B) _ (within-true l h)

-- a byte that is not TEXTDATA is no byte of it
pub text-not : {b : ℕ} → TEXTDATA b → (k : ℕ) → textdata k ≡ false → eqb b k ≡ false
text-not {b} t k n = ne_eqb b k (λ e. false-true (sym n ∙ (rw e at (textdata-true t))))

-- the kinds of bytes
pub data Kind : ℕ → Type 0 where
  is-text : {b : ℕ} → TEXTDATA b → Kind b
  is-comma : Kind COMMA
  is-cr : Kind CR
  is-lf : Kind LF
  is-dquote : Kind DQUOTE
  is-other :
      {b : ℕ} →
      textdata b ≡ false → eqb b COMMA ≡ false → eqb b CR ≡ false → eqb b LF ≡ false → eqb b DQUOTE ≡ false → Kind b

pub kind : (b : ℕ) → Kind b
kind b = go (either (textdata b)) (either (eqb b COMMA)) (either (eqb b CR)) (either (eqb b LF)) (either (eqb b DQUOTE))
  where
    go : Test (textdata b) → Test (eqb b COMMA) → Test (eqb b CR) → Test (eqb b LF) → Test (eqb b DQUOTE) → Kind b
    go (inl e) c r l d = is-text (textdata-holds b e)
    go (inr e) (inl c) r l d = rw (eqb-true b COMMA c) is-comma
    go (inr e) (inr c) (inl r) l d = rw (eqb-true b CR r) is-cr
    go (inr e) (inr c) (inr r) (inl l) d = rw (eqb-true b LF l) is-lf
    go (inr e) (inr c) (inr r) (inr l) (inl d) = rw (eqb-true b DQUOTE d) is-dquote
    go (inr e) (inr c) (inr r) (inr l) (inr d) = is-other e c r l d

-- from s at q the reading comes to t at p, and what it reads there it makes `adds` of
pub record Leads (q : State) (s : List ℕ) (p : State) (t : List ℕ) (adds : Rest → Rest) : Type 0 where
  pub goes : regular q s ≡ regular p t
  pub gives : rest q s ≡ adds (rest p t)

pub leads-on :
    {q p o : State} {s t u : List ℕ} {f g : Rest → Rest} →
    Leads q s p t f → Leads p t o u g → Leads q s o u (λ r. f (g r))
leads-on {f} l m = record { goes = l.goes ∙ m.goes; gives = l.gives ∙ ap f m.gives }

-- the states at which a field may end
pub data Ends : State → Type 0 where
  ends-begin : Ends begin
  ends-plain : Ends plain
  ends-closing : Ends closing

-- the bytes that stand for themselves in an escaped field
pub data Kept : ℕ → Type 0 where
  kept-text : {b : ℕ} → TEXTDATA b → Kept b
  kept-comma : Kept COMMA
  kept-cr : Kept CR
  kept-lf : Kept LF

module _ (s : List ℕ) where
  pub begin-text : {b : ℕ} → TEXTDATA b → Leads begin (b ∷ s) plain s (byte b)
  unfolding regular rest next grown
  begin-text t =
      let d = text-not t DQUOTE refl in
      let x = textdata-true t in
      record { goes = simp (d, x); gives = simp (text-not t COMMA refl, d, x) }

  pub plain-text : {b : ℕ} → TEXTDATA b → Leads plain (b ∷ s) plain s (byte b)
  unfolding regular rest next grown
  plain-text t =
      let x = textdata-true t in
      record { goes = simp x; gives = simp (text-not t COMMA refl, x) }

  pub begin-dquote : Leads begin (DQUOTE ∷ s) quoted s (λ r. r)
  unfolding regular rest next grown
  begin-dquote = record { goes = refl; gives = refl }

  pub quoted-dquote : Leads quoted (DQUOTE ∷ s) closing s (λ r. r)
  unfolding regular rest next grown
  quoted-dquote = record { goes = refl; gives = refl }

  pub closing-dquote : Leads closing (DQUOTE ∷ s) quoted s (byte DQUOTE)
  unfolding regular rest next grown
  closing-dquote = record { goes = refl; gives = refl }

  pub quoted-kept : {b : ℕ} → Kept b → Leads quoted (b ∷ s) quoted s (byte b)
  unfolding regular rest next grown
  quoted-kept (kept-text t) =
      let d = text-not t DQUOTE refl in
      let x = textdata-true t in
      record { goes = simp (d, x); gives = simp (d, x) }
  quoted-kept kept-comma = record { goes = refl; gives = refl }
  quoted-kept kept-cr = record { goes = refl; gives = refl }
  quoted-kept kept-lf = record { goes = refl; gives = refl }

  pub ends-comma : {q : State} → Ends q → Leads q (COMMA ∷ s) begin s comma
  unfolding regular rest next grown
  ends-comma ends-begin = record { goes = refl; gives = refl }
  ends-comma ends-plain = record { goes = refl; gives = refl }
  ends-comma ends-closing = record { goes = refl; gives = refl }

  pub ends-cr : {q : State} → Ends q → Leads q (CR ∷ s) ended s (λ r. r)
  unfolding regular rest next grown
  ends-cr ends-begin = record { goes = refl; gives = refl }
  ends-cr ends-plain = record { goes = refl; gives = refl }
  ends-cr ends-closing = record { goes = refl; gives = refl }

  pub ended-lf : Leads ended (LF ∷ s) begin s (crlf s)
  unfolding regular rest next grown
  ended-lf = record { goes = refl; gives = refl }

-- the bytes at which a state refuses the file

pub broken-refuses : (s : List ℕ) → regular broken s ≡ false
unfolding regular next
broken-refuses [] = refl
broken-refuses (b ∷ s) = broken-refuses s

module _ (b : ℕ) (s : List ℕ) where
  pub begin-refuses :
      eqb b DQUOTE ≡ false → textdata b ≡ false → eqb b COMMA ≡ false → eqb b CR ≡ false →
      regular begin (b ∷ s) ≡ false
  unfolding regular next
  begin-refuses d x c r = simp (d, x, c, r) (broken-refuses s)

  pub plain-refuses : textdata b ≡ false → eqb b COMMA ≡ false → eqb b CR ≡ false → regular plain (b ∷ s) ≡ false
  unfolding regular next
  plain-refuses x c r = simp (x, c, r) (broken-refuses s)

  pub quoted-refuses :
      eqb b DQUOTE ≡ false → textdata b ≡ false → eqb b COMMA ≡ false → eqb b CR ≡ false → eqb b LF ≡ false →
      regular quoted (b ∷ s) ≡ false
  unfolding regular next
  quoted-refuses d x c r l = simp (d, x, c, r, l) (broken-refuses s)

  pub closing-refuses : eqb b DQUOTE ≡ false → eqb b COMMA ≡ false → eqb b CR ≡ false → regular closing (b ∷ s) ≡ false
  unfolding regular next
  closing-refuses d c r = simp (d, c, r) (broken-refuses s)

  pub ended-refuses : eqb b LF ≡ false → regular ended (b ∷ s) ≡ false
  unfolding regular next
  ended-refuses l = simp l (broken-refuses s)
