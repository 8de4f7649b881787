-- Texts that are written are of RFC 4180: a value in quotes or not is a field, values side by side are a record, and records one
-- behind the other are a file. Assumes nothing.
use Prim.Native.Nat.{ℕ}
use mathlib.Core.Path.{◌≡◌}
use mathlib.Core.Bool.{true}
use mathlib.Core.List.{List, [], ◌∷◌, ◌++◌}
use Rattle.base.proofs.Tests.{and-fst, and-snd}
use Rattle.csv_text.specs.Grammar.{NonEscaped, Opened, Escaped, Field, Record, File}
use Rattle.csv_text.specs.Records.{textdata}
use Rattle.csv_text.specs.Bytes.{COMMA, DQUOTE}
use Rattle.csv_text.specs.promises.Plain.{all_text, all_texts}
use Rattle.csv_text.specs.promises.Rows.{Breaks, at-end, crlf, Rows}
use Rattle.csv_text.proofs.Steps.{textdata-holds}

text_of : (v r : List ℕ) → all_text v ≡ true → NonEscaped (v ++ r) v r
unfolding all_text
text_of [] r e = NonEscaped.none
text_of (b ∷ v) r e =
    NonEscaped.text (textdata-holds b (and-fst (textdata b) (all_text v) e)) (text_of v r (and-snd (textdata b) (all_text v) e))

opened_of : (v r : List ℕ) → all_text v ≡ true → Opened (v ++ DQUOTE ∷ r) v r
unfolding all_text
opened_of [] r e = Opened.close
opened_of (b ∷ v) r e =
    Opened.text (textdata-holds b (and-fst (textdata b) (all_text v) e)) (opened_of v r (and-snd (textdata b) (all_text v) e))

-- a field as it is written, and then r
unfoldable pub plainly : List ℕ → List ℕ → List ℕ
plainly v r = v ++ r

unfoldable pub in_quotes : List ℕ → List ℕ → List ℕ
in_quotes v r = DQUOTE ∷ (v ++ DQUOTE ∷ r)

pub plain-field : (v r : List ℕ) → all_text v ≡ true → Field (plainly v r) v r
unfolding plainly
plain-field v r e = Field.non-escaped (text_of v r e)

pub quoted-field : (v r : List ℕ) → all_text v ≡ true → Field (in_quotes v r) v r
unfolding in_quotes
quoted-field v r e = Field.escaped (Escaped.dquote (opened_of v r e))

-- fields side by side, each as `enclosed` writes it, and then r
module _ (enclosed : List ℕ → List ℕ → List ℕ) where
  unfoldable pub side_by_side : List ℕ → List (List ℕ) → List ℕ → List ℕ
  side_by_side v [] r = enclosed v r
  side_by_side v (w ∷ vs) r = enclosed v (COMMA ∷ side_by_side w vs r)

  module _ (is_field : (v r : List ℕ) → all_text v ≡ true → Field (enclosed v r) v r) where
    pub fields-record :
        (v : List ℕ) (vs : List (List ℕ)) (r : List ℕ) → all_texts (v ∷ vs) ≡ true → Record (side_by_side v vs r) (v ∷ vs) r
    unfolding all_texts side_by_side
    fields-record v [] r e = Record.last (is_field v r (and-fst (all_text v) true e))
    fields-record v (w ∷ vs) r e =
        Record.more (is_field v (COMMA ∷ side_by_side w vs r) (and-fst (all_text v) (all_texts (w ∷ vs)) e))
        (fields-record w vs r (and-snd (all_text v) (all_texts (w ∷ vs)) e))

-- records one behind the other are a file
pub rows-file :
    {s e t : List ℕ} {v : List (List ℕ)} {vs : List (List (List ℕ))} →
    Record s v e → Breaks e t → Rows t vs [] → File s (v ∷ vs)
rows-file r at-end Rows.none = File.last r
rows-file r crlf Rows.none = File.last-crlf r
rows-file r crlf (Rows.more w b l) = File.more r (rows-file w b l)
