-- A text copied line by line without its quotes: where its first line ends, and the loop that writes a line a turn. Assumes nothing.
use Prim.Native.Nat.{ℕ, suc, ◌+◌, ◌-◌, ◌≤◌, ◌<◌}
use mathlib.Core.Path.{◌≡◌, refl, sym, ◌∙◌, ap}
use mathlib.Core.Bool.{Bool, true, false, cond}
use mathlib.Core.List.{List, [], ◌∷◌, ◌++◌, append_assoc, append-nil}
use native.Mathlib.Omega.{arith}
use lib.Dec.{eqb}
use lib.ListN.{length, get_or, take, drop, take-append-drop, length-append, length-drop}
use borrow.Author.Tests.{eq-eqb, ne_eqb}
use Rattle.base.specs.promises.Writing.{Wrote}
use Rattle.base.proofs.Lists.{drop-next, drop-end, rest-lent}
use Rattle.base.proofs.Together.{Writing}
use Rattle.base.proofs.Writers.{wrote_none, wrote-next, wrote-length}
use Rattle.csv_text.specs.Bytes.{LF}
use Rattle.tidy.specs.promises.Copying.{kept, unquoted, line_length, LineWritten}
use Rattle.tidy.proofs.CopyLaws.{unquoted-append, no_more}

-- a line of some text has some bytes
line-some : (s : List ℕ) → 0 < length s → 0 < line_length s
unfolding line_length
line-some [] h = absurd (omega arith)
line-some (b ∷ s) h = go (eqb b LF)
  where
    go : (t : Bool) → 0 < cond t 1 (suc (line_length s))
    go true = omega arith
    go false = omega arith

line-within : (s : List ℕ) → line_length s ≤ length s
unfolding line_length
line-within [] = omega arith
line-within (b ∷ s) = go (eqb b LF) (line-within s)
  where
    go : (t : Bool) → line_length s ≤ length s → cond t 1 (suc (line_length s)) ≤ suc (length s)
    go true h = omega arith
    go false h = omega arith

-- the search for the end of the first line
pub record Seeking (s : List ℕ) (i : ℕ) : Type 0 where
  pub sought : line_length s ≡ i + line_length (drop i s)

pub seeking-none : (s : List ℕ) → Seeking s 0
seeking-none s = record { sought = omega arith }

module _ {s : List ℕ} {i : ℕ} (k : Seeking s i) where
  line-here : (b : ℕ) (t : List ℕ) → drop i s ≡ b ∷ t → eqb b LF ≡ true → line_length s ≡ i + 1
  unfolding line_length
  line-here b t here e = k.sought ∙ rw (here, e)

  line-later : (b : ℕ) (t : List ℕ) → drop i s ≡ b ∷ t → eqb b LF ≡ false → line_length s ≡ i + suc (line_length t)
  unfolding line_length
  line-later b t here e = k.sought ∙ rw (here, e)

  no_line : drop i s ≡ [] → line_length s ≡ i + 0
  unfolding line_length
  no_line here = k.sought ∙ rw here

  pub seeking-found : i < length s → get_or s i 0 ≡ LF → i + 1 ≡ line_length s
  seeking-found h e = sym (line-here (get_or s i 0) (drop (i + 1) s) (drop-next 0 i s h) (eq-eqb (get_or s i 0) LF e))

  pub seeking-next : i < length s → (get_or s i 0 ≡ LF → ⊥) → Seeking s (i + 1)
  seeking-next h n =
      let later = line-later (get_or s i 0) (drop (i + 1) s) (drop-next 0 i s h) (ne_eqb (get_or s i 0) LF n) in
      record { sought = omega (arith, later) }

  pub seeking-over : length s ≤ i → i ≡ line_length s
  seeking-over h = omega (arith, no_line (drop-end i s h))

-- a line written as far as its end
pub line-written :
    {s old new : List ℕ} {i at : ℕ} → Writing kept s old i at new → i ≡ line_length s → LineWritten s old new i at
unfolding unquoted
line-written w e = record { first = e; wrote = w.wrote }

module _ {s old new : List ℕ} {n k : ℕ} (line : LineWritten s old new n k) where
  pub line_read : n ≤ length s
  line_read = omega (arith, line.first, line-within s)

  -- what is left gets shorter
  pub line-fewer : 0 < length s → length (take (length s - n) (drop n s)) < length s
  line-fewer h = rw (rest-lent n s) (omega (arith, length-drop n s, line.first, line-some s h))

-- the lines before the rest stand at the start of the buffer
pub record Lines (s old rest : List ℕ) (at : ℕ) (new : List ℕ) : Type 0 where
  pub text : List ℕ
  pub whole : unquoted s ≡ text ++ unquoted rest
  pub wrote : Wrote text at old new
  pub same_length : length new ≡ length old

pub lines_none : (s old : List ℕ) → Lines s old s 0 old
lines_none s old = record { text = []; whole = refl; wrote = wrote_none old; same_length = refl }

module _ {s old rest new : List ℕ} {at : ℕ} (l : Lines s old rest at new) where
  nothing_left : rest ≡ [] → unquoted s ≡ l.text
  nothing_left e = l.whole ∙ rw (e, no_more) (append-nil l.text)

  pub lines-over : length rest ≤ 0 → Wrote (unquoted s) at old new
  lines-over h = rw (nothing_left (drop-end 0 rest h)) l.wrote

  module _ (fits : length (unquoted s) ≤ length old) where
    pub lines-room : at + length (unquoted rest) ≤ length new
    lines-room =
        omega (arith, ap length l.whole, length-append l.text (unquoted rest), l.wrote.counted, l.same_length)

    module _ {n k : ℕ} {part : List ℕ} (line : LineWritten rest (take (length new - at) (drop at new)) part n k) where
      parted : unquoted rest ≡ unquoted (take n rest) ++ unquoted (drop n rest)
      parted = ap unquoted (sym (take-append-drop n rest)) ∙ unquoted-append (take n rest) (drop n rest)

      pub line-room : at + k ≤ length new
      line-room =
          omega (
            arith,
            lines-room,
            line.wrote.counted,
            ap length parted,
            length-append (unquoted (take n rest)) (unquoted (drop n rest)),
          )

      pub lines_next :
          Lines s old (take (length rest - n) (drop n rest)) (at + k) (take at new ++ (part ++ drop (length new - at) (drop at new)))
      lines_next =
          let wrote = wrote-next l.wrote line.wrote in
          rw (rest-lent n rest)
          (record {
            text = l.text ++ unquoted (take n rest);
            whole = l.whole ∙ rw parted (sym (append_assoc l.text (unquoted (take n rest)) (unquoted (drop n rest))));
            wrote = wrote;
            same_length = wrote-length wrote (omega (arith, line-room, wrote.counted, l.same_length));
          })
