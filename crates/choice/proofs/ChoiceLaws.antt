-- Laws of a unit's rows among all: whether one is of a schedule of some kinds, and what is kept of them, row by row. Assumes
-- nothing.
use Rattle.std.specs.Prelude.{None, Option}
use Prim.Native.Nat.{ℕ, ◌+◌, ◌≤◌, ◌<◌}
use mathlib.Core.Path.{◌≡◌, refl, sym, ◌∙◌}
use mathlib.Core.Bool.{Bool, true, false, cond, ◌&&◌, ◌||◌}
use mathlib.Core.List.{List, [], ◌∷◌, map, foldr}
use native.Mathlib.Omega.{arith}
use lib.Dec.{eqb}
use lib.ListN.{get_or}
use borrow.Author.Tests.{eqb-true, eq-eqb, ne_eqb}
use Rattle.base.proofs.Tests.{and-fst, and-snd}
use Rattle.base.specs.Search.{any, those}
use Rattle.hours.specs.Hours.{last_hour}
use Rattle.links.specs.promises.Links.{most_linked, RowsLinked, any_before, Along, unit_keys, by_unit}
use Rattle.links.proofs.LinkLaws.{Walk, down, walk-key, rows-by-unit}
use Rattle.tables.specs.promises.Ranges.{PermittedSchedule}
use Rattle.tables.specs.Rows.{ScheduleRow, kind_of}
use Rattle.tables.specs.declared.files.Kind.{Kind}
use Rattle.tables.specs.promises.FlatRows.{schedule_rows}
use Rattle.cells.specs.promises.Views.{schedule_at}
use Rattle.schedules.specs.Schedules.{own}
use Rattle.schedules.proofs.SearchLaws.{rows-any, rows-down, along-unit}
use Rattle.choice.specs.declared.kinds.Kinds.{Kinds}
use Rattle.choice.specs.declared.choices.Choice.{Choice}
use Rattle.choice.specs.Schedules.{at_hour, schedules, admits, of_kinds, has_any}
use Rattle.choice.specs.Choosing.{shown, kept, kept_all}
use Rattle.choice.specs.promises.Steps.{own_offers, weighed, offers}

module _ (u h : ℕ) (kinds : Kinds) where
  any-own : (rows : List ScheduleRow) → has_any kinds (schedules h (own u rows)) ≡ any (own_offers u h kinds) rows
  unfolding has_any schedules own those offers any own_offers
  any-own [] = refl
  any-own (row ∷ rows) = go (eqb row.unit u) (at_hour h row) refl (any-own rows)
    where
      go :
          (t v : Bool) → at_hour h row ≡ v → has_any kinds (schedules h (own u rows)) ≡ any (own_offers u h kinds) rows →
          has_any kinds (schedules h (cond t (row ∷ own u rows) (own u rows)))
          ≡ ((t && (v && of_kinds kinds row)) || any (own_offers u h kinds) rows)
      go true true e more = simp e (rw more)
      go true false e more = simp e more
      go false v e more = more

  module _ (f : ScheduleRow → Choice) where
    kept-own :
        (rows : List ScheduleRow) →
        kept_all (map f (those (of_kinds kinds) (schedules h (own u rows))))
        ≡ foldr (λ (row : ScheduleRow) (b : Option Choice). weighed u h kinds f b row) None rows
    unfolding kept_all schedules own those offers own_offers weighed
    kept-own [] = refl
    kept-own (row ∷ rows) = go (eqb row.unit u) (at_hour h row) (of_kinds kinds row) refl refl (kept-own rows)
      where
        go :
            (t v w : Bool) → at_hour h row ≡ v → of_kinds kinds row ≡ w →
            kept_all (map f (those (of_kinds kinds) (schedules h (own u rows))))
            ≡ foldr (λ (r : ScheduleRow) (b : Option Choice). weighed u h kinds f b r) None rows →
            kept_all (map f (those (of_kinds kinds) (schedules h (cond t (row ∷ own u rows) (own u rows)))))
            ≡ cond (t && (v && w)) (kept (foldr (λ (r : ScheduleRow) (b : Option Choice). weighed u h kinds f b r) None rows) (f row))
            (foldr (λ (r : ScheduleRow) (b : Option Choice). weighed u h kinds f b r) None rows)
        go true true true e k more = simp (e, k) (rw more)
        go true true false e k more = simp (e, k) more
        go true false w e k more = simp e more
        go false v w e k more = more

-- a row by the tests in their order
module _ (u h : ℕ) (kinds : Kinds) (row : ScheduleRow) where
  pub offers-unit : (row.unit ≡ u → ⊥) → false ≡ own_offers u h kinds row
  unfolding own_offers
  offers-unit e = rw (ne_eqb row.unit u e)

  module _ (own_row : row.unit ≡ u) where
    pub offers-hour : (row.hour ≡ h → ⊥) → false ≡ own_offers u h kinds row
    unfolding own_offers offers at_hour
    offers-hour e = rw (eq-eqb row.unit u own_row, ne_eqb row.hour h e)

    pub offers-kinds : row.hour ≡ h → admits kinds (kind_of row.kind) ≡ own_offers u h kinds row
    unfolding own_offers offers at_hour of_kinds
    offers-kinds e = rw (eq-eqb row.unit u own_row, eq-eqb row.hour h e)

  module _ (offered : own_offers u h kinds row ≡ true) where
    offered-unit : row.unit ≡ u
    unfolding own_offers
    offered-unit = eqb-true row.unit u (and-fst (eqb row.unit u) (offers h kinds row) offered)

    its-hour : row.hour ≡ h
    unfolding own_offers offers at_hour
    its-hour = eqb-true row.hour h (and-fst (at_hour h row) (of_kinds kinds row) (and-snd (eqb row.unit u) (offers h kinds row) offered))

  -- an hour for which there is a row is one of the day
  pub offered-hour : {t : Bool} → t ≡ own_offers u h kinds row → t ≡ true → PermittedSchedule row → h ≤ last_hour
  offered-hour said e r = omega (arith, its-hour (sym said ∙ e), r.hour)

-- the rows of the unit u, whose key is x, along links
module _ (n : ℕ) (cells : List ℕ) (u h : ℕ) (kinds : Kinds) where
  abbrev pub offers_at : ℕ → Bool
  offers_at j = own_offers u h kinds (schedule_at cells j)

  pub any-rows : has_any kinds (schedules h (own u (schedule_rows n cells))) ≡ any_before offers_at n
  any-rows = any-own u h kinds (schedule_rows n cells) ∙ rows-any cells (own_offers u h kinds) n

  pub along-offers :
      (x : ℕ) (links : List ℕ) → RowsLinked cells n links → x ≡ by_unit u → x < unit_keys →
      Along offers_at n links (get_or links (most_linked + x) 0)
  along-offers x links l is one =
      along-unit cells n u x links offers_at (rows-by-unit l) is one
      (λ j e. eq-eqb (schedule_at cells j).unit u (offered-unit u h kinds (schedule_at cells j) e))

  module _ (day : Option Kind) where
    abbrev shown_of : ScheduleRow → Choice
    shown_of = shown day h (own u (schedule_rows n cells))

    -- what is kept of an earlier choice and row j
    abbrev pub weighed_at : Option Choice → ℕ → Option Choice
    weighed_at b j = weighed u h kinds shown_of b (schedule_at cells j)

    pub best-over :
        (best : Option Choice) → best ≡ down weighed_at None n →
        best ≡ kept_all (map shown_of (those (of_kinds kinds) (schedules h (own u (schedule_rows n cells)))))
    best-over best e =
        e ∙ sym (kept-own u h kinds shown_of (schedule_rows n cells) ∙ rows-down cells (weighed u h kinds shown_of) None n)

    -- row j by whether it is offered
    module _ (b : Option Choice) (j : ℕ) where
      pub weighed-own :
          {t : Bool} {c : Choice} {next : Option Choice} → t ≡ offers_at j → t ≡ true →
          c ≡ shown day h (own (schedule_at cells j).unit (schedule_rows n cells)) (schedule_at cells j) → next ≡ kept b c →
          next ≡ weighed_at b j
      unfolding weighed
      weighed-own said e shows is =
          let offered : offers_at j ≡ true = sym said ∙ e in
          rw (is, shows, offered, offered-unit u h kinds (schedule_at cells j) offered)

      pub weighed-not : {t : Bool} → t ≡ offers_at j → t ≡ false → b ≡ weighed_at b j
      unfolding weighed
      weighed-not said e = rw (← said, e)

    pub best-walk :
        (x : ℕ) (links : List ℕ) → RowsLinked cells n links → x ≡ by_unit u → x < unit_keys →
        Walk weighed_at None n links None (get_or links (most_linked + x) 0)
    best-walk x links l is one =
        walk-key weighed_at None x (rows-by-unit l) one
        (λ b j other. sym (weighed-not b j (offers-unit u h kinds (schedule_at cells j) (λ e. other (rw (is, e)))) refl))
