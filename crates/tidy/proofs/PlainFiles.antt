-- Records that are written one behind the other, unquoted and each with a CR LF behind it, are a file of those records. Assumes
-- nothing.
use Prim.Native.Nat.{ℕ, ◌<◌}
use mathlib.Core.Path.{◌≡◌, refl, ◌∙◌, ap}
use mathlib.Core.Bool.{true}
use mathlib.Core.List.{List, [], ◌∷◌, ◌++◌, append_assoc}
use native.Mathlib.Omega.{arith}
use lib.ListN.{length, length-append}
use Rattle.base.specs.Search.{All, all_none, all_more}
use Rattle.base.specs.Text.{together}
use Rattle.csv_text.specs.Bytes.{COMMA, CR, LF}
use Rattle.csv_text.specs.Grammar.{Record, File}
use Rattle.csv_text.specs.promises.Plain.{all_texts}
use Rattle.csv_text.proofs.Written.{plainly, plain-field, side_by_side, fields-record}
use Rattle.tables.specs.Table.{joined, record_text}

-- the fields of a record that needs no quotes
pub record Plain (vs : List (List ℕ)) : Type 0 where
  pub some-field : 0 < length vs
  pub texts : all_texts vs ≡ true

joined-fields : (v : List ℕ) (vs : List (List ℕ)) (r : List ℕ) → joined (v ∷ vs) ++ r ≡ side_by_side plainly v vs r
unfolding joined side_by_side plainly
joined-fields v [] r = refl
joined-fields v (w ∷ vs) r =
    append_assoc v (COMMA ∷ joined (w ∷ vs)) r ∙ ap (λ l. v ++ COMMA ∷ l) (joined-fields w vs r)

plain-record : (vs : List (List ℕ)) (r : List ℕ) → Plain vs → Record (record_text vs ++ r) vs (CR ∷ LF ∷ r)
plain-record [] r p = absurd (omega (arith, p.some-field))
plain-record (v ∷ vs) r p =
    rw (append_assoc (joined (v ∷ vs)) (CR ∷ LF ∷ []) r, joined-fields v vs (CR ∷ LF ∷ r))
    (fields-record plainly plain-field v vs (CR ∷ LF ∷ r) p.texts)

-- a record in front of a file that has bytes
file-behind :
    {s t : List ℕ} {v : List (List ℕ)} {vs : List (List (List ℕ))} →
    0 < length t → Record s v (CR ∷ LF ∷ t) → File t vs → File s (v ∷ vs)
file-behind {t = []} h r f = absurd (omega arith)
file-behind {t = b ∷ t} h r f = File.more r f

pub plain-file :
    {v : List (List ℕ)} {vs : List (List (List ℕ))} → Plain v → All Plain vs → File (together record_text (v ∷ vs)) (v ∷ vs)
unfolding together
plain-file {v} p all_none = File.last-crlf (plain-record v [] p)
plain-file {v} p (all_more {x = w} {xs = vs} q qs) =
    let behind = together record_text (w ∷ vs) in
    let bytes : 0 < length behind =
    omega (arith, length-append (record_text w) (together record_text vs), length-append (joined w) (CR ∷ LF ∷ []))
    in
    file-behind bytes (plain-record v behind p) (plain-file q qs)
