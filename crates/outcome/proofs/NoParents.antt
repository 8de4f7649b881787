-- A study without parents: each row stands for its own supplier, file 5 refuses nothing, and a file of its header alone is as good as
-- none. So the rows and the refusals are those of the other files. Assumes nothing.
use Rattle.std.specs.Prelude.{Option}
use Prim.Native.Nat.{ℕ}
use mathlib.Core.Path.{◌≡◌, refl, sym, ◌∙◌}
use mathlib.Core.List.{List, [], ◌++◌, append_assoc}
use Rattle.base.specs.Search.{first_of}
use Rattle.base.proofs.FirstLaws.{first-of-between}
use Rattle.tables.specs.Table.{header, joined, header_text, parents_columns}
use Rattle.tables.specs.declared.files.File.TheVariants.{Parents}
use Rattle.tables.specs.declared.files.Refusal.{Refusal}
use Rattle.supply.specs.Supply.{units}
use Rattle.affiliates.proofs.GroupLaws.{no-parents}
use Rattle.checking.specs.Files.{
  files,
  constraint_of,
  supply_of,
  schedules_of,
  or_header,
  parents_of,
  scheduled_of,
  groups_of,
  alone_refusals,
  market_refusals,
  schedules_refusals,
  curves_refusals,
  units_refusals,
  beside_refusals,
  check_refusals,
  check_refusal,
}
use Rattle.checking.specs.promises.Curves.{priced_rows}
use Rattle.checking.proofs.ParentsLaws.{no_rows, none-refused}
use Rattle.outcome.specs.Day.{DayView}
use Rattle.outcome.specs.Decision.{decided}
use Rattle.outcome.specs.Study.{study_rows, decision_refusals, study_refusals, study_refusal, studied}

module _ (c s h k : List ℕ) where
  pub own-suppliers : groups_of (files c s h k []) ≡ supply_of s
  unfolding groups_of
  own-suppliers = rw no_rows (no-parents (supply_of s))

  pub rows-without : (d : DayView) → study_rows d (files c s h k []) ≡ decided (constraint_of c) (supply_of s) (priced_rows h k) d.running (supply_of s)
  unfolding study_rows scheduled_of
  rows-without d = rw own-suppliers

  abbrev us : List ℕ
  us = units (supply_of s)

  abbrev before : List (Option Refusal)
  before = market_refusals c s ++ (schedules_refusals us h ++ curves_refusals (schedules_of h) k)

  abbrev lacks : List (Option Refusal)
  lacks = units_refusals (constraint_of c).hour us (schedules_of h)

  -- what stands before those of a file, whatever they are
  parts :
      (others : List (Option Refusal)) →
      market_refusals c s ++ beside_refusals others (constraint_of c).hour us h k ≡ before ++ (others ++ lacks)
  unfolding beside_refusals
  parts others =
      rw (
        append_assoc (market_refusals c s) (schedules_refusals us h ++ curves_refusals (schedules_of h) k) (others ++ lacks),
        append_assoc (schedules_refusals us h) (curves_refusals (schedules_of h) k) (others ++ lacks),
      )

  pub refusal-without : check_refusal (files c s h k []) ≡ first_of (before ++ lacks)
  unfolding check_refusal check_refusals first_of
  refusal-without =
      rw (parts (alone_refusals Parents []))
      (first-of-between before (alone_refusals Parents []) lacks ∙ rw none-refused (sym (first-of-between before [] lacks)))

  -- the header alone
  same-header : or_header Parents (header_text Parents) ≡ or_header Parents []
  unfolding or_header header_text joined header parents_columns
  same-header = refl

  pub header-alone : (d : DayView) (old : List ℕ) → studied d (files c s h k (header_text Parents)) old ≡ studied d (files c s h k []) old
  unfolding studied study_refusal study_refusals decision_refusals check_refusals beside_refusals study_rows scheduled_of groups_of parents_of alone_refusals
  header-alone d old = rw same-header
