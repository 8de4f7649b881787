-- Laws of costs: how large they are, and the cost of a run row by row among all rows. Assumes nothing.
use Prim.Native.Nat.{ℕ, ◌+◌, ◌-◌, ◌*◌, ◌≤◌, ◌<◌}
use mathlib.Core.Path.{◌≡◌, refl, sym, ◌∙◌}
use mathlib.Core.Logic.{⊎_elim}
use mathlib.Core.Bool.{Bool, true, false, cond}
use mathlib.Core.List.Memᴰ.{head as first}
use mathlib.Core.List.Memᴰ.{tail as later}
use mathlib.Core.List.{List, [], ◌∷◌, foldr, Memᴰ as Among}
use native.Mathlib.Nat.{mul-le-mul}
use native.Mathlib.Omega.{arith}
use lib.Dec.{eqb}
use lib.ListN.{length, get_or}
use borrow.Author.Tests.{eq-eqb, ne_eqb}
use Rattle.base.specs.Search.{those}
use Rattle.base.proofs.Tests.{eq-or-ne}
use Rattle.offers.proofs.OfferLaws.{offer-small}
use Rattle.tables.specs.Table.{highest_ecomin, highest_cost}
use Rattle.hours.specs.Hours.{in_run}
use Rattle.links.specs.promises.Links.{most_linked, Linked, schedule_keys, schedule_key}
use Rattle.links.proofs.LinkLaws.{Walk, down, down-more, walk-key, walk_step}
use Rattle.tables.specs.promises.Ranges.{PermittedSchedule}
use Rattle.tables.specs.Rows.{ScheduleRow, kind_of}
use Rattle.tables.specs.declared.files.Kind.{Kind}
use Rattle.tables.specs.declared.files.Kind.TheVariants.{M, C}
use Rattle.tables.specs.promises.FlatRows.{schedule_rows}
use Rattle.cells.specs.promises.Views.{schedule_at}
use Rattle.cells.proofs.RowViews.{schedule-length}
use Rattle.schedules.specs.Schedules.{own}
use Rattle.schedules.proofs.SearchLaws.{rows-down}
use Rattle.choice.specs.Cost.{offer_price, price, hour_cost, most_hour, in_its_run, share, run_cost}
use Rattle.choice.specs.promises.Ranges.{ScheduleCells}
use Rattle.choice.specs.promises.Steps.{own_share}

price-small : (k : Kind) (listed : ℕ) → listed ≤ highest_cost → offer_price k listed ≤ highest_cost
unfolding offer_price
price-small M listed h = omega (arith, h, offer-small listed h)
price-small C listed h = omega (arith, h, offer-small listed h)

module _ (row : ScheduleRow) (r : PermittedSchedule row) where
  pub output-small : row.ecomin * price row ≤ highest_ecomin * highest_cost
  unfolding price
  output-small = mul-le-mul r.ecomin (price-small (kind_of row.kind) row.price r.price)

  pub hour-small : hour_cost row ≤ most_hour
  unfolding hour_cost
  hour-small = omega (arith, output-small, r.noload)

-- what a row adds to the cost of a run of the unit u, by the ways of the code
module _ (u h : ℕ) (schedule row : ScheduleRow) where
  pub share-unit : (row.unit ≡ u → ⊥) → 0 ≡ own_share u h schedule row
  unfolding own_share
  share-unit other = simp (ne_eqb _ _ other)

  module _ (own_row : row.unit ≡ u) where
    pub share-schedule : (row.schedule ≡ schedule.schedule → ⊥) → 0 ≡ own_share u h schedule row
    unfolding own_share share in_its_run
    share-schedule other = simp (eq-eqb _ _ own_row, ne_eqb _ _ other)

    module _ {minrun k : ℕ} (same : row.schedule ≡ schedule.schedule) (lasts : minrun ≡ schedule.minrun) (at : k ≡ row.hour) where
      pub share_in : in_run h minrun k ≡ true → own_share u h schedule row ≡ hour_cost row
      unfolding own_share share in_its_run
      share_in e = simp (eq-eqb _ _ own_row, eq-eqb _ _ same, ← lasts, ← at, e)

      pub share-out : in_run h minrun k ≡ false → own_share u h schedule row ≡ 0
      unfolding own_share share in_its_run
      share-out e = simp (eq-eqb _ _ own_row, eq-eqb _ _ same, ← lasts, ← at, e)

  share-small : PermittedSchedule row → own_share u h schedule row ≤ most_hour
  unfolding own_share share
  share-small r = go (eqb row.unit u) (in_its_run h schedule row)
    where
      go : (t v : Bool) → cond t (cond v (hour_cost row) 0) 0 ≤ most_hour
      go true true = hour-small row r
      go true false = omega arith
      go false v = omega arith

-- the cost of a run, added up from the last row of all to the first
module _ (u h : ℕ) (schedule : ScheduleRow) where
  abbrev summed : List ScheduleRow → ℕ
  summed rows = foldr (λ (row : ScheduleRow) (sum : ℕ). sum + own_share u h schedule row) 0 rows

  run-own : (rows : List ScheduleRow) → run_cost h schedule (own u rows) ≡ summed rows
  unfolding run_cost own those own_share
  run-own [] = refl
  run-own (row ∷ rows) = go (eqb row.unit u) (run-own rows)
    where
      go :
          (t : Bool) → run_cost h schedule (own u rows) ≡ summed rows →
          run_cost h schedule (cond t (row ∷ own u rows) (own u rows)) ≡ summed rows + cond t (share h schedule row) 0
      go true more = omega (arith, more)
      go false more = omega (arith, more)

  run_small :
      (rows : List ScheduleRow) → ((row : ScheduleRow) → Among row rows → PermittedSchedule row) → summed rows ≤ length rows * most_hour
  run_small [] r = omega arith
  run_small (row ∷ rows) r =
      omega (
        arith,
        share-small u h schedule row (r row (first refl)),
        run_small rows (λ other m. r other (later m)),
      )

  pub own-run-small : (n : ℕ) (cells : List ℕ) → ScheduleCells n cells → run_cost h schedule (own u (schedule_rows n cells)) ≤ most_linked * most_hour
  own-run-small n cells c =
      rw (run-own (schedule_rows n cells))
      (omega (arith, run_small (schedule_rows n cells) c.ranged, schedule-length n cells, c.few))

-- the run of the schedule at a place, along its links
module _ (n : ℕ) (cells : List ℕ) (h s : ℕ) where
  abbrev run_of : ℕ
  run_of = run_cost h (schedule_at cells s) (own (schedule_at cells s).unit (schedule_rows n cells))

  abbrev share_at : ℕ → ℕ
  share_at j = own_share (schedule_at cells s).unit h (schedule_at cells s) (schedule_at cells j)

  abbrev pub share_added : ℕ → ℕ → ℕ
  share_added sum j = sum + share_at j

  run_down : run_of ≡ down share_added 0 n
  run_down =
      run-own (schedule_at cells s).unit h (schedule_at cells s) (schedule_rows n cells)
      ∙ rows-down cells (λ (sum : ℕ) (row : ScheduleRow). sum + own_share (schedule_at cells s).unit h (schedule_at cells s) row) 0 n

  -- rows of other keys add nothing
  idle : (sum j : ℕ) → (schedule_key cells j ≡ schedule_key cells s → ⊥) → share_added sum j ≡ sum
  idle sum j other =
      let nothing : 0 ≡ share_at j = ⊎_elim of-unit (share-unit (schedule_at cells s).unit h (schedule_at cells s) (schedule_at cells j)) (eq-or-ne (schedule_at cells j).unit (schedule_at cells s).unit) in
      omega (arith, nothing)
    where
      of-unit : (schedule_at cells j).unit ≡ (schedule_at cells s).unit → 0 ≡ share_at j
      of-unit e =
          share-schedule (schedule_at cells s).unit h (schedule_at cells s) (schedule_at cells j) e
          (λ (f : (schedule_at cells j).schedule ≡ (schedule_at cells s).schedule). other (rw (e, f)))

  pub run-walk :
      (x : ℕ) (links : List ℕ) → Linked (schedule_key cells) schedule_keys n links → x ≡ schedule_key cells s → x < schedule_keys →
      Walk share_added 0 n links 0 (get_or links (most_linked + x) 0)
  run-walk x links l is one = walk-key share_added 0 x l one (λ sum j other. idle sum j (λ e. other (e ∙ sym is)))

  -- a share more fits
  pub run_fits :
      (links : List ℕ) (sum left : ℕ) → ScheduleCells n cells → Walk share_added 0 n links sum left → 0 < left →
      sum + share_at (left - 1) ≤ most_linked * most_hour
  run_fits links sum left c w some =
      omega (
        arith,
        own-run-small (schedule_at cells s).unit h (schedule_at cells s) n cells c,
        run_down,
        walk_step share_added 0 n links sum left w some,
        down-more share_at (sum + share_at (left - 1)) (left - 1),
      )

  pub run-over : (sum : ℕ) → sum ≡ down share_added 0 n → sum ≡ run_of
  run-over sum e = e ∙ sym run_down
