-- Laws of fields as parts of a file, over plain lists: one for each way through the code. Assumes nothing.
use Prim.Native.Nat.{ℕ, suc, ◌+◌, ◌-◌, ◌≤◌, ◌<◌}
use mathlib.Core.Path.{◌≡◌, refl, sym, ◌∙◌}
use mathlib.Core.Bool.{Bool, true, false, cond}
use mathlib.Core.List.{List, [], ◌∷◌}
use native.Mathlib.Omega.{arith}
use lib.Dec.{eqb}
use lib.ListN.{length, get_or, take, drop}
use borrow.Author.Tests.{eq-eqb, ne_eqb}
use Rattle.base.proofs.Lists.{drop-next, drop-end}
use Rattle.csv_text.specs.promises.Fields.{turned, ends_field, extent, unread, inner}
use Rattle.csv_text.specs.Bytes.{COMMA, DQUOTE}

module _ (inside : Bool) (s : List ℕ) (i : ℕ) where
  pub extent-here : i < length s → ends_field inside (get_or s i 0) ≡ true → extent inside (drop i s) ≡ 0
  unfolding extent
  extent-here h e = rw (drop-next 0 i s h, e)

  pub extent-later :
      i < length s → ends_field inside (get_or s i 0) ≡ false →
      extent inside (drop i s) ≡ suc (extent (turned inside (get_or s i 0)) (drop (i + 1) s))
  unfolding extent
  extent-later h e = rw (drop-next 0 i s h, e)

  pub extent-end : length s ≤ i → extent inside (drop i s) ≡ 0
  unfolding extent
  extent-end h = rw (drop-end i s h)

module _ (s : List ℕ) (n : ℕ) where
  skipped : Bool → List ℕ
  skipped x = drop (n + cond x 1 2) s

  none_left : (x : Bool) → length s ≤ n → skipped x ≡ []
  unfolding skipped
  none_left true h = drop-end (n + 1) s (omega arith)
  none_left false h = drop-end (n + 2) s (omega arith)

  pub unread-end : length s ≤ n → drop (length s) s ≡ unread s n
  unfolding unread skipped
  unread-end h =
      drop-end (length s) s (omega arith) ∙ sym (none_left (eqb (get_or s n 0) COMMA) h)

  pub unread-comma : get_or s n 0 ≡ COMMA → drop (n + 1) s ≡ unread s n
  unfolding unread
  unread-comma e = simp (eq-eqb _ _ e)

  pub unread-short :
      length s ≤ n + 2 → (get_or s n 0 ≡ COMMA → ⊥) → drop (length s) s ≡ unread s n
  unfolding unread
  unread-short h e =
      drop-end (length s) s (omega arith) ∙ sym (simp (ne_eqb _ _ e) (drop-end (n + 2) s h))

  pub unread-crlf : (get_or s n 0 ≡ COMMA → ⊥) → drop (n + 2) s ≡ unread s n
  unfolding unread
  unread-crlf e = simp (ne_eqb _ _ e)

pub inner-none : (t : List ℕ) → length t ≡ 0 → t ≡ inner t
unfolding inner
inner-none [] h = refl
inner-none (b ∷ s) h = absurd (omega arith)

pub inner-plain : (t : List ℕ) → (get_or t 0 0 ≡ DQUOTE → ⊥) → t ≡ inner t
unfolding inner
inner-plain [] e = refl
inner-plain (b ∷ s) e = simp (ne_eqb _ _ e)

pub inner-lone : (t : List ℕ) → length t ≡ 1 → get_or t 0 0 ≡ DQUOTE → take (length t - 1) (drop 1 t) ≡ inner t
unfolding inner
inner-lone [] h e = refl
inner-lone (b ∷ []) h e = simp (eq-eqb _ _ e)
inner-lone (b ∷ c ∷ s) h e = absurd (omega arith)

pub inner-quoted : (t : List ℕ) → get_or t 0 0 ≡ DQUOTE → take (length t - 1 - 1) (drop 1 t) ≡ inner t
unfolding inner
inner-quoted [] e = refl
inner-quoted (b ∷ s) e =
    let n : suc (length s) - 1 ≡ length s = omega arith in
    simp (eq-eqb _ _ e, n)
