-- What a call that writes a tidy file promises: what is told, how many bytes it wrote, and every byte of the buffer. Assumes nothing.
use Rattle.std.specs.Prelude.{ℕ, ◌≡◌, List, length, Err, Ok, Result}
use Rattle.tables.specs.Refusals.{told_by, count_of}
use Rattle.tables.specs.declared.files.Refusal.{Refusal}
use Rattle.tidy.specs.Tidy.{short_for_tidy, Tidying, tidying}
use Rattle.tidy.specs.promises.Copying.{copied}

pub record Tidies (o : Tidying) (new : List ℕ) (r : Result ℕ Refusal) : Type 0 where
  pub tells : told_by r ≡ o.told
  pub counts : count_of r ≡ o.count
  pub bytes : new ≡ o.buffer

-- a file copied without its quotes, or 30
abbrev pub Copies : List ℕ → List ℕ → List ℕ → Result ℕ Refusal → Type 0
Copies s buffer new r = Tidies (tidying (copied s) buffer (short_for_tidy (copied s) (length buffer))) new r
