-- Laws of the header at the start of a file: byte by byte, and that either of its texts is a record of the columns' names.
-- Assumes nothing.
use Rattle.std.proofs.Common.{◌≡◌, ℕ, ◌+◌, ◌-◌, ◌<◌, ◌≤◌, List, [], ◌∷◌, ◌++◌, length, get_or, take, drop, sym, refl, ap, ◌∙◌, subst, append_assoc, append-nil, add-one, arith, length-append, length-drop, take-suc, drop-drop}
use mathlib.Core.Bool.{Bool, true}
use lib.Dec.{eqb}
use lib.ListN.{take-append-drop}
use lib.Pointwise.{pointwise, bytes_decides}
use Rattle.base.proofs.Lists.{rest-lent}
use Rattle.csv_text.specs.Grammar.{Record}
use Rattle.csv_text.specs.promises.Plain.{all_text, all_texts}
use Rattle.csv_text.proofs.Written.{in_quotes, quoted-field, side_by_side, fields-record}
use Rattle.csv_text.specs.Bytes.{CR, DQUOTE, LF}
use Rattle.tables.specs.Table.{header, joined, header_text, constraint_columns, supply_columns, schedules_columns, curves_columns, parents_columns}
use Rattle.tables.specs.declared.files.File.{File}
use Rattle.tables.specs.declared.files.File.TheVariants.{Constraint, Supply, Schedules, Curves, Parents}
use Rattle.tables.proofs.Written.{plain-header}
use Rattle.onepass.specs.promises.Walk.{Begins, HeaderFound, TextAt, quoted_byte, quoted_bytes, quoted_text}

-- a text at the start, as std's test has it
pub starts : (s t : List ℕ) {r : Bool} → r ≡ pointwise eqb t (take (length t) s) → r ≡ true → s ≡ t ++ drop (length t) s
starts s t e h =
    sym (take-append-drop (length t) s)
    ∙ ap (λ (l : List ℕ). l ++ drop (length t) s) (sym ((bytes_decides t (take (length t) s)).0 (sym e ∙ h)))

-- a text from a place on: one, and one behind the other
pub text-there :
    (s : List ℕ) (at : ℕ) (t part : List ℕ) → at ≤ length s → part ≡ take (length s - at) (drop at s) →
    part ≡ t ++ drop (length t) part → TextAt s at t (at + length t)
text-there s at t part h is e = record { there = behind; inside = within }
  where
    from : part ≡ drop at s
    from = is ∙ rest-lent at s

    behind : drop at s ≡ t ++ drop (at + length t) s
    behind = rw from at e ∙ rw (drop-drop (length t) at s)

    within : at + length t ≤ length s
    within = omega (arith, ap length behind, length-append t (drop (at + length t) s), length-drop at s)

text-then :
    (s : List ℕ) (a b c : ℕ) (t u : List ℕ) → TextAt s a t b → TextAt s b u c → TextAt s a (t ++ u) c
text-then s a b c t u x y =
    record { there = x.there ∙ rw y.there (sym (append_assoc t u (drop c s))); inside = y.inside }

-- a header in quotes, byte by byte
quoted-more : (s : List ℕ) (b : ℕ) → quoted_bytes (s ++ b ∷ []) ≡ quoted_bytes s ++ quoted_byte b
unfolding quoted_bytes
quoted-more [] b = append-nil (quoted_byte b)
quoted-more (x ∷ s) b = rw (quoted-more s b) (sym (append_assoc (quoted_byte x) (quoted_bytes s) (quoted_byte b)))

pub quoted-none : (s : List ℕ) → TextAt s 0 (DQUOTE ∷ []) 1 → TextAt s 0 (quoted_text []) 1
unfolding quoted_text quoted_bytes
quoted-none s t = t

pub quoted-next :
    (s h : List ℕ) (i at next : ℕ) → TextAt s 0 (quoted_text (take i h)) at → i < length h →
    TextAt s at (quoted_byte (get_or h i 0)) next → TextAt s 0 (quoted_text (take (i + 1) h)) next
unfolding quoted_text
quoted-next s h i at next t l u =
    rw (add-one i, take-suc h i 0 l, quoted-more (take i h) (get_or h i 0))
    (text-then s 0 at next (DQUOTE ∷ quoted_bytes (take i h)) (quoted_byte (get_or h i 0)) t u)

pub begins-second : (s a b : List ℕ) (r : ℕ) → TextAt s 0 b r → Begins s a b r
begins-second s a b r t = rw long (Begins.the_second (rw long at t.there))
  where
    long : r ≡ length b
    long = omega (arith, ap length t.there, length-append b (drop r s), length-drop r s, t.inside)

-- a header in quotes is a record of the columns' names
quoted-header : (f : File) (r : List ℕ) → Record (quoted_text (header_text f) ++ r) (header f) (CR ∷ LF ∷ r)
unfolding quoted_text quoted_bytes quoted_byte header_text joined header constraint_columns supply_columns schedules_columns curves_columns parents_columns side_by_side in_quotes all_texts all_text
quoted-header Constraint r = fields-record in_quotes quoted-field _ _ _ refl
quoted-header Supply r = fields-record in_quotes quoted-field _ _ _ refl
quoted-header Schedules r = fields-record in_quotes quoted-field _ _ _ refl
quoted-header Curves r = fields-record in_quotes quoted-field _ _ _ refl
quoted-header Parents r = fields-record in_quotes quoted-field _ _ _ refl

module _ (f : File) (s : List ℕ) where
  header_at :
      (t : List ℕ) → ((r : List ℕ) → Record (t ++ r) (header f) (CR ∷ LF ∷ r)) → s ≡ t ++ drop (length t) s →
      HeaderFound f s (length t)
  header_at t w e =
      record {
        names = subst (λ (l : List ℕ). Record l (header f) (CR ∷ LF ∷ drop (length t) s)) (sym e) (w (drop (length t) s));
        inside = omega (arith, ap length e, length-append t (drop (length t) s));
      }

  pub header-found : (r : ℕ) → Begins s (header_text f) (quoted_text (header_text f)) r → HeaderFound f s r
  header-found r (Begins.the-first e) = header_at (header_text f) (plain-header f) e
  header-found r (Begins.the_second e) = header_at (quoted_text (header_text f)) (quoted-header f) e
