-- A walk through a file of RFC 4180 field by field: at the start of a record stands its first field, and what is left
-- unread behind a field is the next field, the next record, or nothing. A field's value and its text without quotes are
-- alike: the same, or both with a quote inside. Assumes nothing.
use Prim.Native.Nat.{ℕ, suc, ◌+◌, ◌-◌}
use mathlib.Core.Path.{◌≡◌, refl, sym, ◌∙◌, ap}
use mathlib.Core.Bool.{true, false, cond}
use mathlib.Core.List.{List, [], ◌∷◌, ◌++◌}
use native.Mathlib.Omega.{arith}
use native.Mathlib.Nat.{add_assoc}
use native.Mathlib.Numerals.{add-one}
use lib.Dec.{eqb}
use lib.ListN.{length, get_or, take, length-append}
use lib.Seq.{append_snoc, take-append_seam, drop-append-add, get_or-append-add, take_at}
use Rattle.csv_text.specs.Grammar.{NonEscaped, Opened, Escaped, Field, Record, File}
use Rattle.csv_text.specs.promises.Fields.{extent, unread, inner}
use Rattle.csv_text.specs.promises.Rows.{Breaks, at-end, crlf}
use Rattle.csv_text.specs.Bytes.{COMMA, CR, DQUOTE, LF}
use Rattle.csv_text.proofs.Steps.{text-not}

-- a field's value beside its text without the quotes around it
pub data Alike : List ℕ → List ℕ → Type 0 where
  same : {v : List ℕ} → Alike v v
  quotes : (a c a' c' : List ℕ) → Alike (a ++ DQUOTE ∷ c) (a' ++ DQUOTE ∷ c')

alike-more : {v w : List ℕ} (b : ℕ) → Alike v w → Alike (b ∷ v) (b ∷ w)
alike-more b same = same
alike-more b (quotes a c a' c') = quotes (b ∷ a) c (b ∷ a') c'

-- s is the text t of a field of value v, and then r
record Text (s v r : List ℕ) : Type 0 where
  t : List ℕ
  whole : s ≡ t ++ r
  reaches : extent false s ≡ length t
  alike : Alike v (inner t)

-- s is the raw inside of an escaped field of value v, its closing quote, and then r
record Raw (s v r : List ℕ) : Type 0 where
  raw : List ℕ
  whole : s ≡ raw ++ DQUOTE ∷ r
  reaches : extent true s ≡ suc (length raw)
  alike : Alike v raw

unclosed : (w : List ℕ) → take (length (w ++ DQUOTE ∷ []) - 1) (w ++ DQUOTE ∷ []) ≡ w
unclosed w =
    take_at w (DQUOTE ∷ []) (length (w ++ DQUOTE ∷ []) - 1) (omega (arith, length-append w (DQUOTE ∷ [])))

module _ {r : List ℕ} (stops : extent false r ≡ 0) where
  raw-more : {s v : List ℕ} (b : ℕ) → eqb b DQUOTE ≡ false → Raw s v r → Raw (b ∷ s) (b ∷ v) r
  unfolding extent
  raw-more b e w =
      record {
        raw = b ∷ w.raw;
        whole = ap (λ (l : List ℕ). b ∷ l) w.whole;
        reaches = simp (e, w.reaches);
        alike = alike-more b w.alike;
      }

  raw : {s v : List ℕ} → Opened s v r → Raw s v r
  unfolding extent
  raw (Opened.text {b} t o) = raw-more b (text-not t DQUOTE refl) (raw o)
  raw (Opened.comma o) = raw-more COMMA refl (raw o)
  raw (Opened.cr o) = raw-more CR refl (raw o)
  raw (Opened.lf o) = raw-more LF refl (raw o)
  raw (Opened.2dquote {v = v} o) =
      let w = raw o in
      record {
        raw = DQUOTE ∷ DQUOTE ∷ w.raw;
        whole = ap (λ (l : List ℕ). DQUOTE ∷ DQUOTE ∷ l) w.whole;
        reaches = rw w.reaches;
        alike = quotes [] v [] (DQUOTE ∷ w.raw);
      }
  raw Opened.close = record { raw = []; whole = refl; reaches = rw stops; alike = same }

  plain : {s v : List ℕ} → NonEscaped s v r → (s ≡ v ++ r) × (extent false s ≡ length v)
  unfolding extent
  plain NonEscaped.none = (refl, stops)
  plain (NonEscaped.text {b} t n) =
      (ap (λ (l : List ℕ). b ∷ l) (plain n).0, simp (text-not t COMMA refl, text-not t CR refl, text-not t DQUOTE refl, (plain n).1))

  escaped : {s v : List ℕ} → Escaped s v r → Text s v r
  unfolding extent inner
  escaped {v = v} (Escaped.dquote o) =
      let w = raw o in
      record {
        t = DQUOTE ∷ w.raw ++ DQUOTE ∷ [];
        whole = ap (λ (l : List ℕ). DQUOTE ∷ l) (w.whole ∙ sym (append_snoc w.raw DQUOTE r));
        reaches = rw (w.reaches, length-append w.raw (DQUOTE ∷ []), add-one (length w.raw));
        alike = rw (unclosed w.raw) w.alike;
      }

  non-escaped : {s v : List ℕ} → NonEscaped s v r → Text s v r
  non-escaped {v = v} n = record { t = v; whole = (plain n).0; reaches = (plain n).1; alike = rw (unquoted n) same }
    where
      unquoted : {s v : List ℕ} → NonEscaped s v r → inner v ≡ v
      unquoted NonEscaped.none = unfold inner in refl
      unquoted (NonEscaped.text t n) = unfold inner in simp (text-not t DQUOTE refl)

  field : {s v : List ℕ} → Field s v r → Text s v r
  field (Field.escaped e) = escaped e
  field (Field.non-escaped n) = non-escaped n

-- what is left unread of a record, and of the file behind it
pub data Within : List ℕ → List (List ℕ) → List ℕ → Type 0 where
  over : {t : List ℕ} → Within t [] t
  still : {s r t : List ℕ} {vs : List (List ℕ)} → Record s vs r → Breaks r t → Within s vs t

-- what is left unread of a file: nothing, or some records
pub data Left : List ℕ → List (List (List ℕ)) → Type 0 where
  none : {s : List ℕ} → Left s []
  some : {s : List ℕ} {rs : List (List (List ℕ))} → File s rs → Left s rs

pub file-first : {s : List ℕ} {v : List (List ℕ)} {rs : List (List (List ℕ))} → File s (v ∷ rs) → (t : List ℕ) × Within s v t × Left t rs
file-first (File.last r) = ([], still r at-end, none)
file-first (File.last-crlf r) = ([], still r crlf, none)
file-first (File.more {t = t} {b} r f) = (b ∷ t, still r crlf, some f)

-- the next field of a record
pub record Next (s v : List ℕ) (vs : List (List ℕ)) (t : List ℕ) : Type 0 where
  pub alike : Alike v (inner (take (extent false s) s))
  pub on : Within (unread s (extent false s)) vs t

unread-at : (t r : List ℕ) (n : ℕ) → n ≡ length t → unread (t ++ r) n ≡ unread r 0
unfolding unread
unread-at t r n e =
    let e' : n ≡ length t + 0 = omega arith in
    rw (e', get_or-append-add t r 0 0, add_assoc (length t) 0 (cond (eqb (get_or r 0 0) COMMA) 1 2)) (drop-append-add t r _)

next_field : {s v r : List ℕ} {vs : List (List ℕ)} (t : List ℕ) → Text s v r → Within (unread r 0) vs t → Next s v vs t
next_field {r = r} t x w =
    record {
      alike = rw (x.whole, ← x.whole, x.reaches, x.whole, take-append_seam x.t r) x.alike;
      on = rw (x.whole, ← x.whole, x.reaches, x.whole, unread-at x.t r (length x.t) refl) w;
    }

-- a record that is not over has a next field
pub within-next : {s v t : List ℕ} {vs : List (List ℕ)} → Within s (v ∷ vs) t → Next s v vs t
unfolding extent unread
within-next (still (Record.last f) at-end) = next_field _ (field refl f) over
within-next (still (Record.last f) crlf) = next_field _ (field refl f) over
within-next (still (Record.more f r) b) = next_field _ (field refl f) (still r b)
