-- Laws of the searches among a unit's supply rows that stand in cells, and of the units of supply. Assumes nothing.
use Prim.Native.Nat.{ℕ, zero, suc, ◌+◌, ◌*◌, ◌≤◌, ◌<◌}
use mathlib.Core.Path.{◌≡◌, refl, sym, ◌∙◌}
use mathlib.Core.Bool.{Bool, true, false, ◌||◌, or-true, and-false}
use mathlib.Core.List.{List, [], ◌∷◌}
use mathlib.Core.Logic.{⊎_elim}
use native.Mathlib.Nat.{le_of_suc-le-suc, not-suc-le-zero}
use native.Mathlib.Omega.{arith}
use lib.Dec.{eqb}
use lib.ListN.{length, get_or, take, drop}
use lib.Seq.{get_or-take, length-take-le}
use borrow.Author.Tests.{eq-eqb}
use Rattle.base.specs.Rising.{among}
use Rattle.base.specs.Search.{any}
use Rattle.base.proofs.Finds.{find-here, find-later}
use Rattle.base.proofs.Tests.{false-true, lt-or-ge, either}
use Rattle.tables.specs.Rows.{SupplyRow}
use Rattle.tables.specs.promises.FlatRows.{supply_rows}
use Rattle.cells.specs.promises.Views.{supply_width, supply_at}
use Rattle.offers.proofs.CellLaws.{rows_next, rows_end}
use Rattle.supply.proofs.UnitLaws.{among-units}
use Rattle.outcome.specs.Decision.{of_unit, unit_row}
use Rattle.market.specs.promises.Parts.{Tests}
use Rattle.decision.specs.promises.Units.{UnitsOf, UnitFound, any_of, HasWanted}

pub of-unit : (cells : List ℕ) (i u : ℕ) → eqb (get_or cells (i * supply_width + 0) 0) u ≡ of_unit u (supply_at cells i)
unfolding of_unit
of-unit cells i u = refl

module _ (p : SupplyRow → Bool) (n : ℕ) (cells : List ℕ) (i : ℕ) where
  pub any-further : i < n → any p (drop i (supply_rows n cells)) ≡ (p (supply_at cells i) || any p (drop (i + 1) (supply_rows n cells)))
  unfolding any
  any-further h = rw (rows_next n cells i h)

  pub any-over : n ≤ i → any p (drop i (supply_rows n cells)) ≡ false
  unfolding any
  any-over h = rw (rows_end n cells i h)

-- what holds before row i: the unit's row is not among the rows before
pub record Seeking (u n : ℕ) (cells : List ℕ) (i : ℕ) : Type 0 where
  pub there : any (of_unit u) (drop i (supply_rows n cells)) ≡ true
  pub same : unit_row (supply_rows n cells) u ≡ unit_row (drop i (supply_rows n cells)) u
  pub none_before : (p : SupplyRow → Bool) → any_of u p (supply_rows n cells) ≡ any_of u p (drop i (supply_rows n cells))

module _ (u n : ℕ) (cells : List ℕ) where
  pub seeking-none : any (of_unit u) (supply_rows n cells) ≡ true → Seeking u n cells 0
  seeking-none e = record { there = e; same = refl; none_before = λ p. refl }

  module _ (i : ℕ) (seeking : Seeking u n cells i) where
    pub seeking-within : i < n
    seeking-within =
        ⊎_elim (λ h. h) (λ h. false-true (sym (any-over (of_unit u) n cells i h) ∙ seeking.there)) (lt-or-ge i n)

    pub seeking-found : of_unit u (supply_at cells i) ≡ true → UnitFound u n cells i
    unfolding unit_row
    seeking-found e =
        record {
          within = seeking-within;
          found = sym (seeking.same ∙ rw (rows_next n cells i seeking-within, find-here (of_unit u) (supply_at cells i) _ e));
          none_before = seeking.none_before;
        }

    pub seeking-later : of_unit u (supply_at cells i) ≡ false → Seeking u n cells (i + 1)
    unfolding unit_row
    seeking-later e =
        record {
          there = simp e at (sym (any-further (of_unit u) n cells i seeking-within) ∙ seeking.there);
          same = seeking.same ∙ rw (rows_next n cells i seeking-within, find-later (of_unit u) (supply_at cells i) _ e);
          none_before = λ p. seeking.none_before p ∙ any-further _ n cells i seeking-within ∙ simp e;
        }

    -- the last row is the unit's if no other is
    pub seeking-last : n ≤ i + 1 → UnitFound u n cells i
    seeking-last h =
        ⊎_elim
        seeking-found
        (λ e. false-true (sym (any-over (of_unit u) n cells (i + 1) h) ∙ (seeking-later e).there))
        (either (of_unit u (supply_at cells i)))

-- the search for a row of the unit that passes a test, from the first of its rows on
module _ (answers : ℕ → Bool → Type 0) (u n : ℕ) (cells : List ℕ) where
  -- what holds before row i: none of the rows before it is one
  abbrev pub Wanting : ℕ → Type 0
  Wanting i =
      (p : SupplyRow → Bool) → Tests answers n cells p →
      any_of u p (supply_rows n cells) ≡ any_of u p (drop i (supply_rows n cells))

  module _ (i : ℕ) (wanting : Wanting i) where
    pub wanting-found : i < n → of_unit u (supply_at cells i) ≡ true → answers i true → HasWanted answers u n cells true
    wanting-found h e y p t = sym (wanting p t ∙ any-further _ n cells i h ∙ simp (e, ← t i true h y))

    pub wanting-other : i < n → of_unit u (supply_at cells i) ≡ false → Wanting (i + 1)
    wanting-other h e p t = wanting p t ∙ any-further _ n cells i h ∙ simp e

    pub wanting-later : i < n → answers i false → Wanting (i + 1)
    wanting-later h y p t = wanting p t ∙ any-further _ n cells i h ∙ simp (← t i false h y, and-false)

    pub wanting-over : n ≤ i → HasWanted answers u n cells false
    wanting-over h p t = sym (wanting p t ∙ any-over _ n cells i h)

among-get_or : (l : List ℕ) (i : ℕ) → i < length l → among (get_or l i 0) l ≡ true
unfolding among
among-get_or [] i h = absurd (not-suc-le-zero h)
among-get_or (x ∷ l) zero h = rw (eq-eqb x x refl)
among-get_or (x ∷ l) (suc i) h = rw (among-get_or l i (le_of_suc-le-suc h)) (or-true (eqb (get_or l i 0) x))

-- the units of supply are such, by their places
pub unit-there :
    (k : ℕ) (rows : List SupplyRow) (us : List ℕ) (i : ℕ) → UnitsOf k rows us → i < k → any (of_unit (get_or us i 0)) rows ≡ true
unfolding of_unit
unit-there k rows us i of-supply h =
    sym (among-units (get_or us i 0) rows)
    ∙ rw (← of-supply.listed, ← get_or-take k us i 0 h)
    (among-get_or (take k us) i (omega (arith, length-take-le k us of-supply.there)))
