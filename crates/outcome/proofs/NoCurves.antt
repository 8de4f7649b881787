-- A study without curves: each schedule row is priced by its column, file 4 refuses nothing, and a file of its header alone is as good
-- as none. So the rows and the refusals are those of the other files. Assumes nothing.
use Rattle.std.specs.Prelude.{Option}
use Prim.Native.Nat.{ℕ}
use mathlib.Core.Path.{◌≡◌, refl, sym, ◌∙◌}
use mathlib.Core.List.{List, [], ◌++◌, append_assoc}
use Rattle.base.specs.Search.{first_of}
use Rattle.base.proofs.FirstLaws.{first-of-between}
use Rattle.tables.specs.Table.{header, joined, header_text, curves_columns}
use Rattle.tables.specs.declared.files.File.TheVariants.{Curves, Parents}
use Rattle.tables.specs.declared.files.Refusal.{Refusal}
use Rattle.supply.specs.Supply.{units}
use Rattle.curves.proofs.PricedLaws.{no-points}
use Rattle.checking.specs.Files.{
  files,
  constraint_of,
  supply_of,
  schedules_of,
  or_header,
  curves_of,
  scheduled_of,
  groups_of,
  alone_refusals,
  market_refusals,
  schedules_refusals,
  curves_refusals,
  units_refusals,
  beside_refusals,
  check_refusals,
  check_refusal,
}
use Rattle.checking.proofs.CurvesLaws.{no-curves, no-curves-refused}
use Rattle.outcome.specs.Day.{DayView}
use Rattle.outcome.specs.Decision.{decided}
use Rattle.outcome.specs.Preview.{not_supplied, preview_refusals, preview_refusal, previewed}
use Rattle.outcome.specs.Study.{study_rows, decision_refusals, study_refusals, study_refusal, studied}

module _ (c s h p : List ℕ) where
  pub column-prices : scheduled_of (files c s h [] p) ≡ schedules_of h
  unfolding scheduled_of
  column-prices = rw no-curves (no-points (schedules_of h))

  pub rows-without : (d : DayView) → study_rows d (files c s h [] p) ≡ decided (constraint_of c) (groups_of (files c s h [] p)) (schedules_of h) d.running (supply_of s)
  unfolding study_rows
  rows-without d = rw column-prices

  abbrev us : List ℕ
  us = units (supply_of s)

  abbrev before : List (Option Refusal)
  before = market_refusals c s ++ schedules_refusals us h

  abbrev behind : List (Option Refusal)
  behind = alone_refusals Parents p ++ units_refusals (constraint_of c).hour us (schedules_of h)

  pub refusal-without : check_refusal (files c s h [] p) ≡ first_of (before ++ behind)
  unfolding check_refusal check_refusals beside_refusals first_of
  refusal-without =
      rw (← append_assoc (market_refusals c s) (schedules_refusals us h) (curves_refusals (schedules_of h) [] ++ behind))
      (first-of-between before (curves_refusals (schedules_of h) []) behind
      ∙ rw (no-curves-refused (schedules_of h)) (sym (first-of-between before [] behind)))

  -- the header alone
  same-header : or_header Curves (header_text Curves) ≡ or_header Curves []
  unfolding or_header header_text joined header curves_columns
  same-header = refl

  pub header-alone : (d : DayView) (old : List ℕ) → studied d (files c s h (header_text Curves) p) old ≡ studied d (files c s h [] p) old
  unfolding studied study_refusal study_refusals decision_refusals check_refusals beside_refusals curves_refusals study_rows scheduled_of groups_of curves_of alone_refusals
  header-alone d old = rw same-header

  pub header-previewed : (d : DayView) (u : ℕ) → previewed d (files c s h (header_text Curves) p) u ≡ previewed d (files c s h [] p) u
  unfolding previewed preview_refusal preview_refusals not_supplied decision_refusals check_refusals beside_refusals curves_refusals study_rows scheduled_of groups_of curves_of alone_refusals
  header-previewed d u = rw same-header
