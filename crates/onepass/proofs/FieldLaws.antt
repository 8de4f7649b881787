-- Laws of a field at a place of a file: its digits one after the other, its cell by the form, its quotes. Assumes nothing.
use Rattle.std.specs.Prelude.{Option, Some, IfSome}
use Rattle.std.proofs.Common.{◌≡◌, ℕ, suc, ◌+◌, ◌-◌, ◌*◌, ◌%◌, ◌^◌, ◌<◌, ◌≤◌, Bool, true, false, eqb, List, [], ◌∷◌, ◌++◌, length, get_or, drop, sym, refl, ap, ◌∙◌, pow-suc, arith, length-append, get_or-drop, eq-eqb, ne_eqb, eqb-true, le-leb}
use Rattle.std.proofs.lemmas.Option.{IfSome_then}
use Rattle.base.specs.Text.{same}
use Rattle.base.proofs.Lists.{drop-next}
use Rattle.base.specs.promises.Counting.{one}
use Rattle.csv_text.specs.Grammar.{TEXTDATA, above-comma, NonEscaped, Opened, Escaped, Field}
use Rattle.csv_text.specs.Bytes.{DQUOTE}
use Rattle.numeral.specs.Numeral.{ZERO, with_digit, number, leading_zero, digits_from, within}
use Rattle.numeral.proofs.Reading.{digits-read, number-from, none-some}
use Rattle.numeral.specs.Grammar.{Digit, Digits}
use Rattle.tables.specs.declared.columns.Form.{Form}
use Rattle.tables.specs.declared.columns.Form.TheVariants.{Numeral as numeral, Signed as signed, Letter as letter}
use Rattle.tables.specs.Values.{MINUS, in_form, excess, one_of}
use Rattle.onepass.specs.promises.Walk.{Run, ZeroFound, TextFound, FieldFound, Closed}
use Rattle.onepass.specs.declared.fields.Found.{Found}

-- one more byte at the end of a text
text-more : {s v r : List ℕ} {b : ℕ} → NonEscaped s v (b ∷ r) → TEXTDATA b → NonEscaped s (v ++ b ∷ []) r
text-more NonEscaped.none t = NonEscaped.text t NonEscaped.none
text-more (NonEscaped.text u n) t = NonEscaped.text u (text-more n t)

digits_more : {m n b : ℕ} {v : List ℕ} → Digits m v n → Digit b → Digits m (v ++ b ∷ []) (with_digit n b)
digits_more Digits.end d = Digits.digit d Digits.end
digits_more (Digits.digit e ds) d = Digits.digit e (digits_more ds d)

-- the digits from `at` to i, which make n
pub record Running (s : List ℕ) (at i n : ℕ) : Type 0 where
  pub text : List ℕ
  pub runs : NonEscaped (drop at s) text (drop i s)
  pub makes : Digits 0 text n
  pub counted : i ≡ at + length text
  pub small : n < 10 ^ length text

module _ (s : List ℕ) (at : ℕ) where
  pub running_none : Running s at at 0
  running_none = record { text = []; runs = NonEscaped.none; makes = Digits.end; counted = omega arith; small = omega arith }

  -- the byte at i is a digit, told by what it is above ZERO, wrapped
  pub running-next :
      (i n d : ℕ) → Running s at i n → i < length s → (d + ZERO) % 2 ^ 8 ≡ get_or s i 0 → d ≤ 9 → Running s at (i + 1) (10 * n + d)
  running-next i n d w h e m =
      record {
        text = w.text ++ b ∷ [];
        runs = text-more (rw (drop-next 0 i s h) at w.runs) (above-comma (omega (arith, e)) (omega (arith, e)));
        makes = rw made at (digits_more {b = b} w.makes (omega (arith, e)));
        counted = omega (arith, w.counted, longer);
        small = rw (longer, pow-suc) (omega (arith, w.small));
      }
    where
      b : ℕ
      b = get_or s i 0

      made : with_digit n b ≡ 10 * n + d
      made = omega (arith, e)

      longer : length (w.text ++ b ∷ []) ≡ suc (length w.text)
      longer = rw length-append (omega arith)

  pub running-first : (d : ℕ) → at < length s → get_or s at 0 ≡ d + ZERO → d ≤ 9 → Running s at (at + 1) d
  running-first d h e m = rw one at (running-next at 0 d running_none h (omega (arith, e)) m)
    where
      one : 10 * 0 + d ≡ d
      one = omega arith

-- digits with no zero in front are a numeral
number_of : (v : List ℕ) (n : ℕ) → Digits 0 v n → 0 < length v → (get_or v 0 0 ≡ ZERO → ⊥) → number v ≡ Some n
number_of [] n d l z = absurd (omega arith)
number_of (b ∷ v) n d l z = number-from b v z ∙ digits-read d

within-bounds : (least most n : ℕ) → least ≤ n → n ≤ most → within least most (Some n) ≡ Some n
unfolding within
within-bounds least most n l h = simp (le-leb least n l, le-leb n most h)

text_head : {s v r : List ℕ} → NonEscaped s v r → 0 < length v → get_or s 0 0 ≡ get_or v 0 0
text_head NonEscaped.none h = absurd (omega arith)
text_head (NonEscaped.text t n) h = refl

head_at : (s : List ℕ) (at : ℕ) → get_or (drop at s) 0 0 ≡ get_or s at 0
head_at s at = get_or-drop at s 0 0 ∙ ap (λ (k : ℕ). get_or s k 0) whole
  where
    whole : at + 0 ≡ at
    whole = omega arith

module _ (s : List ℕ) (at : ℕ) where
  pub is-numeral :
      (least most : ℕ) (r : Found) → Run s at r → at < r.next → (get_or s at 0 ≡ ZERO → ⊥) → least ≤ r.cell →
      r.cell ≤ most → TextFound (in_form numeral least most) s at r
  unfolding in_form
  is-numeral least most r run h z l m =
      record {
        text = run.text;
        runs = run.runs;
        means =
            rw (number_of run.text r.cell run.makes some-digit no-zero-leads)
            (within-bounds least most r.cell l m);
        inside = run.inside;
      }
    where
      some-digit : 0 < length run.text
      some-digit = omega (arith, run.counted)

      no-zero-leads : get_or run.text 0 0 ≡ ZERO → ⊥
      no-zero-leads e = z (sym (head_at s at) ∙ text_head run.runs some-digit ∙ e)

  zero-text :
      (least most : ℕ) (r : Found) → at < length s → ZeroFound s at least r → TextFound (in_form numeral least most) s at r
  unfolding in_form number leading_zero digits_from
  zero-text least most r h w =
      record {
        text = ZERO ∷ [];
        runs =
            rw (drop-next 0 at s h, w.byte, w.next)
            (NonEscaped.text {b = ZERO} (above-comma (omega arith) (omega arith)) NonEscaped.none);
        means = rw w.cell (within-bounds least most 0 (omega arith) (omega arith));
        inside = omega arith;
      }

  pub is_zero :
      (least most : ℕ) (r : Option Found) → at < length s → IfSome r (ZeroFound s at least) →
      IfSome r (TextFound (in_form numeral least most) s at)
  is_zero least most r h w = IfSome_then r w (λ x z. zero-text least most x h z)

  pub is-letter :
      (a b x : ℕ) → at < length s → x ≡ get_or s at 0 → 0x41 ≤ x → x ≤ 0x5A → one_of a b (x ∷ []) ≡ Some x →
      TextFound (in_form letter a b) s at (record { next = at + 1; cell = x })
  unfolding in_form
  is-letter a b x h e l m o =
      record {
        text = x ∷ [];
        runs = rw (drop-next 0 at s h, ← e) (NonEscaped.text {b = x} (above-comma (omega arith) (omega arith)) NonEscaped.none);
        means = o;
        inside = omega arith;
      }

pub first-letter : (a b x : ℕ) → x ≡ a → one_of a b (x ∷ []) ≡ Some x
unfolding one_of same
first-letter a b x e = simp (eq-eqb x a e) (ap Some (sym e))

pub second-letter : (a b x : ℕ) → (x ≡ a → ⊥) → x ≡ b → one_of a b (x ∷ []) ≡ Some x
unfolding one_of same
second-letter a b x n e = simp (ne_eqb x a n, eq-eqb x b e) (ap Some (sym e))

module _ (s : List ℕ) (at minimum maximum : ℕ) where
  pub is_below :
      (r : Found) (x : ℕ) → at < length s → get_or s at 0 ≡ MINUS → TextFound (in_form numeral 1 minimum) s (at + 1) r →
      x ≡ minimum - r.cell → TextFound (in_form signed minimum maximum) s at (record { next = r.next; cell = x })
  unfolding in_form excess
  is_below r x h e w q =
      record {
        text = MINUS ∷ w.text;
        runs =
            rw (drop-next 0 at s h, e)
            (NonEscaped.text {b = MINUS} (above-comma (omega arith) (omega arith)) w.runs);
        means = rw (w.means, q);
        inside = w.inside;
      }

  above-value :
      (v : List ℕ) (n : ℕ) → (get_or v 0 0 ≡ MINUS → ⊥) → within 0 maximum (number v) ≡ Some n →
      excess minimum maximum v ≡ Some (minimum + n)
  unfolding excess number within
  above-value [] n h e = none-some e
  above-value (b ∷ v) n h e = rw (ne_eqb b MINUS h, e)

  pub is-above :
      (r : Found) (x : ℕ) → (get_or s at 0 ≡ MINUS → ⊥) → TextFound (in_form numeral 0 maximum) s at r →
      x ≡ minimum + r.cell → TextFound (in_form signed minimum maximum) s at (record { next = r.next; cell = x })
  unfolding in_form number within
  is-above r x n w q =
      record {
        text = w.text;
        runs = w.runs;
        means = above-value w.text r.cell (unsigned w.text w.runs w.means) w.means ∙ ap Some (sym q);
        inside = w.inside;
      }
    where
      unsigned :
          (v : List ℕ) {rest : List ℕ} → NonEscaped (drop at s) v rest → within 0 maximum (number v) ≡ Some r.cell →
          get_or v 0 0 ≡ MINUS → ⊥
      unsigned [] t e z = none-some e
      unsigned (b ∷ v) t e z = n (sym (head_at s at) ∙ text_head t (omega arith) ∙ z)

-- a text by its column's form, as the code finds it
pub as-form :
    {form : Form} (f : Form) (a b : ℕ) (s : List ℕ) (at : ℕ) (r : Option Found) → form ≡ f →
    IfSome r (TextFound (in_form f a b) s at) → IfSome r (TextFound (in_form form a b) s at)
as-form f a b s at r e w = rw e w

opened : {s v q r : List ℕ} → NonEscaped s v q → q ≡ DQUOTE ∷ r → Opened s v r
opened NonEscaped.none e = rw e Opened.close
opened (NonEscaped.text t n) e = Opened.text t (opened n e)

module _ (read : List ℕ → Option ℕ) (s : List ℕ) (at : ℕ) where
  pub is_plain : (r : Option Found) → at ≡ 0 → IfSome r (TextFound read s at) → IfSome r (FieldFound read s)
  is_plain r e w =
      IfSome_then r w (λ x t. record { text = t.text; field = Field.non-escaped (rw e at t.runs); means = t.means })

  pub is-quoted :
      (i : Found) (r : Option Found) → 0 < length s → at ≡ one (eqb (get_or s 0 0) DQUOTE) → (at ≡ 0 → ⊥) →
      TextFound read s at i → IfSome r (Closed s i) → IfSome r (FieldFound read s)
  is-quoted i r h q n t w =
      IfSome_then r w (λ x k. record {
        text = t.text;
        field = whole t.text _ (opened t.runs k.ends);
        means = t.means ∙ ap Some (sym k.cell);
      })
    where
      quote : (b : Bool) → eqb (get_or s 0 0) DQUOTE ≡ b → at ≡ one b → (get_or s 0 0 ≡ DQUOTE) × (at ≡ 1)
      quote true e z = (eqb-true _ _ e, z)
      quote false e z = absurd (n z)

      begins : (get_or s 0 0 ≡ DQUOTE) × (at ≡ 1)
      begins = quote (eqb (get_or s 0 0) DQUOTE) refl q

      whole : (v r : List ℕ) → Opened (drop at s) v r → Field s v r
      whole v r o =
          let parts : s ≡ DQUOTE ∷ drop at s = rw begins.1 (drop-next 0 0 s h ∙ rw begins.0) in
          rw parts (Field.escaped (Escaped.dquote o))
