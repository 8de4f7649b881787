-- Document 01, "Refused because of the input": "Every refusal gives number, file (1 constraint, 2 supply, 3 schedules, 0 none) and
-- place." Here what a refusal is, and what a call that gives none tells instead. Assumes nothing.
use Rattle.std.specs.Prelude.{ℕ, Bool, cond, List, ◌∷◌, ◌++◌, Option, None, Some, unwrap_or, Result, Ok, Err, decimal}
use Rattle.tables.specs.Table.{table}
use Rattle.tables.specs.declared.files.File.{File}
use Rattle.tables.specs.declared.files.Refusal.{Refusal}

-- refusal n of a file at a place
abbrev pub refused : ℕ → File → ℕ → Refusal
refused n f place = record { number = n; file = (table f).number; place = place }

-- "a refusal for which no file is named gives file 0 and place 0"
abbrev pub bare_refusal : ℕ → Refusal
bare_refusal n = record { number = n; file = 0; place = 0 }

-- a rule that is kept, or the number of the refusal where it is not
unfoldable pub unless : Bool → ℕ → Option Refusal
unless kept n = cond kept None (Some (bare_refusal n))

-- number, file and place as a call tells them: three zeros where nothing is refused
abbrev pub told : Option Refusal → Refusal
told o = unwrap_or o (bare_refusal 0)

-- the same of what a call answers, and how many bytes it wrote, none where it is refused
abbrev pub told_by : {T : Type 0} → Result T Refusal → Refusal
told_by (Ok x) = bare_refusal 0
told_by (Err r) = r

abbrev pub count_of : Result ℕ Refusal → ℕ
count_of (Ok count) = count
count_of (Err r) = 0

-- number, file and place as programs print them: `2,1,0`
abbrev pub refusal_text : Refusal → List ℕ
refusal_text r = decimal r.number ++ 44 ∷ decimal r.file ++ 44 ∷ decimal r.place
