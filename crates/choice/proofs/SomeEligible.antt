-- When some schedule is eligible: always where the unit has a schedule, and a C schedule if it runs on cost, which is what
-- refusal 21 is for. Assumes nothing.
use Rattle.std.specs.Prelude.{Option}
use Prim.Native.Nat.{ℕ}
use mathlib.Core.Path.{◌≡◌, refl, sym, ◌∙◌, ap}
use mathlib.Core.Logic.{◌↔◌}
use mathlib.Core.Bool.{Bool, true, false, ◌||◌, or-true}
use mathlib.Core.List.Memᴰ.{head as first}
use mathlib.Core.List.Memᴰ.{tail as later}
use mathlib.Core.List.{List, [], ◌∷◌, Memᴰ as Among}
use Rattle.base.proofs.Tests.{false-true, or_fst, or_snd}
use Rattle.tables.specs.Rows.{ScheduleRow, kind_of}
use Rattle.tables.specs.declared.files.Kind.{Kind}
use Rattle.tables.specs.declared.files.Kind.TheVariants.{M, C}
use Rattle.choice.specs.declared.kinds.Kinds.{Kinds}
use Rattle.choice.specs.declared.kinds.Kinds.TheVariants.{All, OnlyM, OnlyC}
use Rattle.choice.specs.Schedules.{schedules, on_cost, admits, of_kinds, has_any, eligible_kinds, eligible_schedule}
use Rattle.choice.specs.Right.{Eligible}

-- a schedule of these kinds
of-kinds :
    (kinds : Kinds) (all : List ScheduleRow) → has_any kinds all ≡ true →
    (row : ScheduleRow) × Among row all × (of_kinds kinds row ≡ true)
unfolding has_any
of-kinds kinds [] e = false-true e
of-kinds kinds (row ∷ rows) e = go (of_kinds kinds row) refl e (of-kinds kinds rows)
  where
    go :
        (t : Bool) → of_kinds kinds row ≡ t → (t || has_any kinds rows) ≡ true →
        (has_any kinds rows ≡ true → (other : ScheduleRow) × Among other rows × (of_kinds kinds other ≡ true)) →
        (other : ScheduleRow) × Among other (row ∷ rows) × (of_kinds kinds other ≡ true)
    go true f e more = (row, first refl, f)
    go false f e more = ((more e).0, later (more e).1, (more e).2)

any_of :
    (kinds : Kinds) {row : ScheduleRow} {all : List ScheduleRow} → Among row all → of_kinds kinds row ≡ true →
    has_any kinds all ≡ true
unfolding has_any
any_of kinds {row = row} (first {x = r} f) e = simp (ap (of_kinds kinds) (sym f) ∙ e)
any_of kinds (later {x = r} m) e = simp (any_of kinds m e) (or-true (of_kinds kinds r))

none-of-kinds :
    (kinds : Kinds) {row : ScheduleRow} {all : List ScheduleRow} → has_any kinds all ≡ false → Among row all →
    of_kinds kinds row ≡ false
unfolding has_any
none-of-kinds kinds e (first {x = r} {xs = rs} f) = rw f (or_fst _ (has_any kinds rs) e)
none-of-kinds kinds e (later {x = r} {xs = rs} m) = none-of-kinds kinds (or_snd (of_kinds kinds r) (has_any kinds rs) e) m

-- what isn't M is C
isn't-M : (row : ScheduleRow) → of_kinds OnlyM row ≡ false → of_kinds OnlyC row ≡ true
unfolding of_kinds
isn't-M row = go (kind_of row.kind)
  where
    go : (k : Kind) → admits OnlyM k ≡ false → admits OnlyC k ≡ true
    go M e = false-true (sym e)
    go C e = refl

module _ (day : Option Kind) (exposed : Bool) (h : ℕ) (rows : List ScheduleRow) where
  -- the schedules of the eligible kinds are the eligible ones
  by-kinds :
      (kinds : Kinds) → eligible_kinds day exposed (has_any OnlyM (schedules h rows)) ≡ kinds → (row : ScheduleRow) →
      Among row (schedules h rows) → of_kinds kinds row ≡ true →
      (row : ScheduleRow) × Eligible day exposed h rows row
  unfolding eligible_schedule
  by-kinds kinds e row m f = (row, record { of-the-unit = m; passes = rw e f })

  -- some schedule is eligible, where the unit has one, and a C schedule if it runs on cost
  pub some-eligible :
      (row : ScheduleRow) → Among row (schedules h rows) → (on_cost day ≡ true → has_any OnlyC (schedules h rows) ≡ true) →
      (row : ScheduleRow) × Eligible day exposed h rows row
  unfolding eligible_kinds
  some-eligible row m on-cost = go (on_cost day) exposed (has_any OnlyM (schedules h rows)) refl refl refl
    where
      go :
          (t u v : Bool) → on_cost day ≡ t → exposed ≡ u → has_any OnlyM (schedules h rows) ≡ v →
          (row : ScheduleRow) × Eligible day exposed h rows row
      go true u v e f g =
          let (other, n, k) = of-kinds OnlyC (schedules h rows) (on-cost e) in
          by-kinds OnlyC (simp e) other n k
      go false true v e f g = by-kinds All (simp (e, f)) row m (unfold of_kinds in refl)
      go false false true e f g =
          let (other, n, k) = of-kinds OnlyM (schedules h rows) g in
          by-kinds OnlyM (simp (e, f, g)) other n k
      go false false false e f g = by-kinds OnlyC (simp (e, f, g)) row m (isn't-M row (none-of-kinds OnlyM g m))

  -- a unit that runs on cost has an eligible schedule exactly when it has a C schedule
  pub on-cost-exactly :
      on_cost day ≡ true → ((row : ScheduleRow) × Eligible day exposed h rows row) ↔ (has_any OnlyC (schedules h rows) ≡ true)
  unfolding eligible_schedule eligible_kinds
  on-cost-exactly e = (
    λ x. any_of OnlyC x.1.of-the-unit (simp e at x.1.passes),
    λ has.
        let (row, m, k) = of-kinds OnlyC (schedules h rows) has in
        by-kinds OnlyC (simp e) row m k,
  )
