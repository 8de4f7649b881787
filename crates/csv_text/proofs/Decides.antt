-- The reading of RFC 4180 (`specs/Reading`) accepts the files of its grammar (`specs/Grammar`) and no others, and gives the
-- values of their fields. So a file has one reading. Assumes nothing.
use Prim.Native.Nat.{ℕ}
use mathlib.Core.Path.{◌≡◌, refl, sym, ◌∙◌, ap}
use mathlib.Core.Bool.{Bool, true, false}
use mathlib.Core.List.{List, [], ◌∷◌}
use Rattle.base.proofs.Tests.{false-true}
use Rattle.csv_text.specs.Grammar.{NonEscaped, Opened, Escaped, Field, Record, File}
use Rattle.csv_text.specs.Records.{State, begin, plain, quoted, closing, ended, broken, Rest, next, grown, regular, rest, rfc4180, records}
use Rattle.csv_text.specs.Bytes.{COMMA, CR, DQUOTE, LF}
use Rattle.csv_text.proofs.Steps.{text-not, Kind, is-text, is-comma, is-cr, is-lf, is-dquote, is-other, kind, Leads, leads-on, Ends, ends-begin, ends-plain, ends-closing, kept-text, kept-comma, kept-cr, kept-lf, begin-text, plain-text, begin-dquote, quoted-dquote, closing-dquote, quoted-kept, ends-comma, ends-cr, ended-lf, broken-refuses, begin-refuses, plain-refuses, quoted-refuses, closing-refuses, ended-refuses}

-- From the grammar to the reading: a form leads the reading from its first state to what follows it, and adds its value.

-- what a field ends at
data Follows : List ℕ → Type 0 where
  at-end : Follows []
  at-comma : {s : List ℕ} → Follows (COMMA ∷ s)
  at-cr : {s : List ℕ} → Follows (CR ∷ s)

-- the rest of a file in which the begun field is v
abbrev held : List ℕ → Rest → Rest
held v r = record { field = v; fields = r.fields; records = r.records }

ended_held : (s : List ℕ) → rest ended s ≡ held [] (rest ended s)
unfolding rest grown
ended_held [] = refl
ended_held (b ∷ []) = refl
ended_held (b ∷ c ∷ s) = refl

-- the states at which a field may end do not differ in what they make of its end
alike :
    {q p : State} {r s : List ℕ} {f : Rest → Rest} →
    Leads q r p s f → Leads begin r p s f → f (rest p s) ≡ held [] (f (rest p s)) → Leads q r begin r (held [])
alike l m h = record { goes = l.goes ∙ sym m.goes; gives = l.gives ∙ h ∙ ap (held []) (sym m.gives) }

field-ends : {q : State} {r : List ℕ} → Ends q → Follows r → Leads q r begin r (held [])
unfolding regular rest
field-ends ends-begin at-end = record { goes = refl; gives = refl }
field-ends ends-plain at-end = record { goes = refl; gives = refl }
field-ends ends-closing at-end = record { goes = refl; gives = refl }
field-ends e (at-comma {s}) = alike (ends-comma s e) (ends-comma s ends-begin) refl
field-ends e (at-cr {s}) = alike (ends-cr s e) (ends-cr s ends-begin) (ended_held s)

text-read : {s v r : List ℕ} → NonEscaped s v r → Follows r → Leads plain s begin r (held v)
text-read NonEscaped.none f = field-ends ends-plain f
text-read (NonEscaped.text t n) f = leads-on (plain-text _ t) (text-read n f)

opened-read : {s v r : List ℕ} → Opened s v r → Follows r → Leads quoted s begin r (held v)
opened-read (Opened.text t o) f = leads-on (quoted-kept _ (kept-text t)) (opened-read o f)
opened-read (Opened.comma o) f = leads-on (quoted-kept _ kept-comma) (opened-read o f)
opened-read (Opened.cr o) f = leads-on (quoted-kept _ kept-cr) (opened-read o f)
opened-read (Opened.lf o) f = leads-on (quoted-kept _ kept-lf) (opened-read o f)
opened-read (Opened.2dquote o) f = leads-on (quoted-dquote _) (leads-on (closing-dquote _) (opened-read o f))
opened-read Opened.close f = leads-on (quoted-dquote _) (field-ends ends-closing f)

field-read : {s v r : List ℕ} → Field s v r → Follows r → Leads begin s begin r (held v)
field-read (Field.escaped (Escaped.dquote o)) f = leads-on (begin-dquote _) (opened-read o f)
field-read (Field.non-escaped NonEscaped.none) f = field-ends ends-begin f
field-read (Field.non-escaped (NonEscaped.text t n)) f = leads-on (begin-text _ t) (text-read n f)

record-read :
    {s r : List ℕ} {vs : List (List ℕ)} →
    Record s vs r → Follows r → (rest begin r).fields ≡ [] →
    (rfc4180 s ≡ regular begin r) × (records s ≡ vs ∷ (rest begin r).records)
unfolding rfc4180 records
record-read (Record.last f) e n = let l = field-read f e in (l.goes, rw (l.gives, n))
record-read (Record.more {t} f m) e n =
    let l = leads-on (field-read f at-comma) (ends-comma t ends-begin) in
    let h = record-read m e n in
    (l.goes ∙ h.0, rw l.gives (cc h.1))

pub file-read : {s : List ℕ} {rs : List (List (List ℕ))} → File s rs → (rfc4180 s ≡ true) × (records s ≡ rs)
unfolding rfc4180 records regular rest next grown
file-read (File.last r) = record-read r at-end refl
file-read (File.last-crlf r) = record-read r at-cr refl
file-read (File.more {v} r f) =
    let l = record-read r at-cr refl in
    let h = file-read f in
    (l.0 ∙ h.0, l.1 ∙ ap (◌∷◌ v) h.1)

-- From the reading to the grammar: what is accepted from a state on is of the forms that belong to that state.

-- what follows a field in a file: the rest of the file, the further fields of the record, the further records
data Following : List ℕ → List (List ℕ) → List (List (List ℕ)) → Type 0 where
  nothing : Following [] [] []
  after-comma : {s : List ℕ} {vs : List (List ℕ)} {rs : List (List (List ℕ))} → File s (vs ∷ rs) → Following (COMMA ∷ s) vs rs
  last-crlf : Following (CR ∷ LF ∷ []) [] []
  after-crlf : {b : ℕ} {s : List ℕ} {rs : List (List (List ℕ))} → File (b ∷ s) rs → Following (CR ∷ LF ∷ b ∷ s) [] rs

-- one more field in front of a file's first record
file-more :
    {s v t : List ℕ} {vs : List (List ℕ)} {rs : List (List (List ℕ))} →
    Field s v (COMMA ∷ t) → File t (vs ∷ rs) → File s ((v ∷ vs) ∷ rs)
file-more f (File.last r) = File.last (Record.more f r)
file-more f (File.last-crlf r) = File.last-crlf (Record.more f r)
file-more f (File.more r g) = File.more (Record.more f r) g

file-of :
    {s v r : List ℕ} {vs : List (List ℕ)} {rs : List (List (List ℕ))} →
    Field s v r → Following r vs rs → File s ((v ∷ vs) ∷ rs)
file-of f nothing = File.last (Record.last f)
file-of f (after-comma g) = file-more f g
file-of f last-crlf = File.last-crlf (Record.last f)
file-of f (after-crlf g) = File.more (Record.last f) g

-- s is the rest of a file from a state on, by the grammar, and r is what it holds
abbrev From : State → List ℕ → Rest → Type 0
From begin s r = File s ((r.field ∷ r.fields) ∷ r.records)
From plain s r = (t : List ℕ) × NonEscaped s r.field t × Following t r.fields r.records
From quoted s r = (t : List ℕ) × Opened s r.field t × Following t r.fields r.records
From closing s r = (t : List ℕ) × Opened (DQUOTE ∷ s) r.field t × Following t r.fields r.records
From ended s r = (r.field ≡ []) × Following (CR ∷ s) r.fields r.records
From broken s r = ⊥

-- where one state leads to another, so do the forms that belong to them
after :
    {q p : State} {s t : List ℕ} {f : Rest → Rest} →
    Leads q s p t f → (regular p t ≡ true → From p t (rest p t)) → (From p t (rest p t) → From q s (f (rest p t))) →
    regular q s ≡ true → From q s (rest q s)
after l h k e = rw l.gives (k (h (sym l.goes ∙ e)))

refused : {A : Type 0} {t : Bool} → t ≡ false → t ≡ true → A
refused n e = false-true (sym n ∙ e)

blank : {r : List ℕ} → Field r [] r
blank = Field.non-escaped NonEscaped.none

-- one more byte: by h, what stands behind b is the rest of a file from whatever state it is read at
step :
    {b : ℕ} (q : State) → Kind b → (s : List ℕ) → ((p : State) → regular p s ≡ true → From p s (rest p s)) →
    regular q (b ∷ s) ≡ true → From q (b ∷ s) (rest q (b ∷ s))
step begin (is-text x) s h = after (begin-text s x) (h plain) (λ (t, n, f). file-of (Field.non-escaped (NonEscaped.text x n)) f)
step begin is-comma s h = after (ends-comma s ends-begin) (h begin) (λ g. file-of blank (after-comma g))
step begin is-cr s h = after (ends-cr s ends-begin) (h ended) (λ (e, f). rw e (file-of blank f))
step begin is-lf s h = refused (begin-refuses LF s refl refl refl refl)
step begin is-dquote s h = after (begin-dquote s) (h quoted) (λ (t, o, f). file-of (Field.escaped (Escaped.dquote o)) f)
step {b} begin (is-other x c r l d) s h = refused (begin-refuses b s d x c r)
step plain (is-text x) s h = after (plain-text s x) (h plain) (λ (t, n, f). (t, NonEscaped.text x n, f))
step plain is-comma s h = after (ends-comma s ends-plain) (h begin) (λ g. (COMMA ∷ s, NonEscaped.none, after-comma g))
step plain is-cr s h = after (ends-cr s ends-plain) (h ended) (λ (e, f). (CR ∷ s, rw e NonEscaped.none, f))
step plain is-lf s h = refused (plain-refuses LF s refl refl refl)
step plain is-dquote s h = refused (plain-refuses DQUOTE s refl refl refl)
step {b} plain (is-other x c r l d) s h = refused (plain-refuses b s x c r)
step quoted (is-text x) s h = after (quoted-kept s (kept-text x)) (h quoted) (λ (t, o, f). (t, Opened.text x o, f))
step quoted is-comma s h = after (quoted-kept s kept-comma) (h quoted) (λ (t, o, f). (t, Opened.comma o, f))
step quoted is-cr s h = after (quoted-kept s kept-cr) (h quoted) (λ (t, o, f). (t, Opened.cr o, f))
step quoted is-lf s h = after (quoted-kept s kept-lf) (h quoted) (λ (t, o, f). (t, Opened.lf o, f))
step quoted is-dquote s h = after (quoted-dquote s) (h closing) (λ o. o)
step {b} quoted (is-other x c r l d) s h = refused (quoted-refuses b s d x c r l)
step {b} closing (is-text x) s h = refused (closing-refuses b s (text-not x DQUOTE refl) (text-not x COMMA refl) (text-not x CR refl))
step closing is-comma s h = after (ends-comma s ends-closing) (h begin) (λ g. (COMMA ∷ s, Opened.close, after-comma g))
step closing is-cr s h = after (ends-cr s ends-closing) (h ended) (λ (e, f). (CR ∷ s, rw e Opened.close, f))
step closing is-lf s h = refused (closing-refuses LF s refl refl refl)
step closing is-dquote s h = after (closing-dquote s) (h quoted) (λ (t, o, f). (t, Opened.2dquote o, f))
step {b} closing (is-other x c r l d) s h = refused (closing-refuses b s d c r)
step {b} ended (is-text x) s h = refused (ended-refuses b s (text-not x LF refl))
step ended is-comma s h = refused (ended-refuses COMMA s refl)
step ended is-cr s h = refused (ended-refuses CR s refl)
step ended is-lf [] h = after (ended-lf []) (h begin) (λ g. (refl, last-crlf))
step ended is-lf (b ∷ s) h = after (ended-lf (b ∷ s)) (h begin) (λ g. (refl, after-crlf g))
step ended is-dquote s h = refused (ended-refuses DQUOTE s refl)
step {b} ended (is-other x c r l d) s h = refused (ended-refuses b s l)
step {b} broken k s h = refused (broken-refuses (b ∷ s))

from : (q : State) (s : List ℕ) → regular q s ≡ true → From q s (rest q s)
unfolding regular rest
from begin [] e = file-of blank nothing
from plain [] e = ([], NonEscaped.none, nothing)
from quoted [] e = false-true e
from closing [] e = ([], Opened.close, nothing)
from ended [] e = false-true e
from broken [] e = false-true e
from q (b ∷ s) e = step q (kind b) s (λ p. from p s) e

pub read-file : (s : List ℕ) → rfc4180 s ≡ true → File s (records s)
unfolding rfc4180 records
read-file s e = from begin s e

pub one-reading : {s : List ℕ} {rs rs' : List (List (List ℕ))} → File s rs → File s rs' → rs ≡ rs'
one-reading f g = sym (file-read f).1 ∙ (file-read g).1
