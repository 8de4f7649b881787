-- Chains of parents as a reader would say them, with no count and no order of search. Assumes nothing.
use Rattle.std.specs.Prelude.{ℕ, ◌≡◌}
use mathlib.Core.List.{List, Memᴰ as Among}
use Rattle.tables.specs.Rows.{ParentRow}

-- some record names p as the parent of s
pub record Names (ps : List ParentRow) (s p : ℕ) : Type 0 where
  pub row : ParentRow
  pub a-row : Among row ps
  pub its-supplier : row.supplier ≡ s
  pub its-parent : row.parent ≡ p

-- from s to h in some steps from supplier to parent, or in none
pub data Leads (ps : List ParentRow) : ℕ → ℕ → Type 0 where
  there : {s : ℕ} → Leads ps s s
  step : {s p h : ℕ} → Names ps s p → Leads ps p h → Leads ps s h

-- the chain from s ends at h, which has no parent
pub record Chain (ps : List ParentRow) (s h : ℕ) : Type 0 where
  pub leads : Leads ps s h
  pub ends : (p : ℕ) → Names ps h p → ⊥

-- the own chain of a record, of one step or more, comes back to its supplier
abbrev pub ComesBack : List ParentRow → ParentRow → Type 0
ComesBack ps r = Leads ps r.parent r.supplier
