-- Demand 3 from single rows to whole answers: where the row that is decided of each unit is right, and is the only row of that
-- unit that is, the decided rows are right as a whole, and the only ones. Assumes nothing beyond its arguments.
use Prim.Native.Nat.{ℕ}
use mathlib.Core.Path.{◌≡◌, refl, sym, ◌∙◌, ap, ap₂, subst}
use mathlib.Core.List.Memᴰ.{map as among-map}
use mathlib.Core.List.Memᴰ.{of_map}
use mathlib.Core.List.{List, [], ◌∷◌, map, Memᴰ as Among}
use Rattle.base.specs.Rising.{RisingFrom}
use Rattle.base.specs.Search.{All, all_none, all_more}
use Rattle.base.proofs.Elements.{all-mem, all_of}
use Rattle.tables.specs.Rows.{SupplyRow, ScheduleRow}
use Rattle.tables.specs.declared.answer.AnswerRow.{AnswerRow}
use Rattle.tables.specs.declared.constraint.ConstraintRow.{ConstraintRow}
use Rattle.supply.specs.Supply.{units}
use Rattle.affiliates.proofs.GroupLaws.{grouped-units}
use Rattle.checking.specs.Files.{Files, constraint_of, supply_of, scheduled_of, parents_of, groups_of}
use Rattle.outcome.specs.Day.{RunningUnit, DayView}
use Rattle.outcome.specs.Decision.{unit_row, decided_row, decided}
use Rattle.outcome.specs.Study.{study_rows}
use Rattle.outcome.specs.Right.{RowPerUnit, RowOf}
use Rattle.outcome.proofs.RisingSame.{rising-same}
use Rattle.outcome.proofs.UnitRows.{row-has-unit}
use Rattle.outcome.proofs.UnitSupplier.{unit_row_lem}

abbrev pub shown_unit : AnswerRow → ℕ
shown_unit r = r.unit

-- rows that are each made from their unit are all made from their units
made-from-units : (f : ℕ → AnswerRow) {rs : List AnswerRow} → All (λ (r : AnswerRow). r ≡ f r.unit) rs → rs ≡ map f (map shown_unit rs)
made-from-units f all_none = refl
made-from-units f (all_more e a) = ap₂ ◌∷◌ e (made-from-units f a)

-- the row that is decided of a unit is that unit's
module _
    (c : ConstraintRow) (supply : List SupplyRow) (scheduled : List ScheduleRow) (running : List RunningUnit) (ungrouped : List SupplyRow)
  where
    row-unit : (u : ℕ) → (decided_row c supply scheduled running ungrouped u).unit ≡ u
    unfolding decided_row
    row-unit u = refl

    pub rows-units : (us : List ℕ) → map shown_unit (map (decided_row c supply scheduled running ungrouped) us) ≡ us
    rows-units [] = refl
    rows-units (u ∷ us) = ap₂ ◌∷◌ (row-unit u) (rows-units us)

module _ (d : DayView) (f : Files) where
  -- the row of a unit
  abbrev pub study_row : ℕ → AnswerRow
  study_row = decided_row (constraint_of f.constraint) (groups_of f) (scheduled_of f) d.running (supply_of f.supply)

  abbrev supply : List SupplyRow
  supply = supply_of f.supply

  pub study-row-unit : (u : ℕ) → (study_row u).unit ≡ u
  study-row-unit = row-unit (constraint_of f.constraint) (groups_of f) (scheduled_of f) d.running supply

  pub study-rows-units : (us : List ℕ) → map shown_unit (map study_row us) ≡ us
  study-rows-units = rows-units (constraint_of f.constraint) (groups_of f) (scheduled_of f) d.running supply

  -- a row for each unit of the supply file, since groups have the same units
  pub study-rows : study_rows d f ≡ map study_row (units supply)
  unfolding study_rows decided groups_of
  study-rows = rw (grouped-units (parents_of f.parents) supply)

  module _ (rising : RisingFrom 0 (units supply)) where
    decided-per-unit : RowPerUnit supply (map study_row (units supply))
    decided-per-unit =
        record {
          rising = rw (study-rows-units (units supply)) rising;
          a_unit = a_unit;
          every-unit = λ w m. (study_row w.unit, among-map study_row (row-has-unit supply w m), study-row-unit w.unit);
        }
      where
        a_unit : (r : AnswerRow) → Among r (map study_row (units supply)) → (w : SupplyRow) × RowOf supply r.unit w
        a_unit r m =
            let made = of_map study_row (units supply) m in
            let same : made.0 ≡ r.unit = sym (study-row-unit made.0) ∙ ap shown_unit made.2 in
            (unit_row supply made.0, subst (λ (u : ℕ). RowOf supply u (unit_row supply made.0)) same (unit_row_lem supply made.0 made.1))

    -- rows of each unit, by rising number, are rows of the units of the supply file
    units-shown : (rs : List AnswerRow) → RowPerUnit supply rs → map shown_unit rs ≡ units supply
    units-shown rs per-unit = rising-same per-unit.rising rising (λ u. (to-supply u, to-rows u))
      where
        to-supply : (u : ℕ) → Among u (map shown_unit rs) → Among u (units supply)
        to-supply u m =
            let shown = of_map shown_unit rs m in
            let found = per-unit.a_unit shown.0 shown.1 in
            rw (sym shown.2 ∙ sym found.1.its-unit) (row-has-unit supply found.0 found.1.a-row)

        to-rows : (u : ℕ) → Among u (units supply) → Among u (map shown_unit rs)
        to-rows u m =
            let found = unit_row_lem supply u m in
            let shown = per-unit.every-unit (unit_row supply u) found.a-row in
            rw (sym found.its-unit ∙ sym shown.2) (among-map shown_unit shown.1)

    module _ (IsRight : AnswerRow → Type 0) where
      pub rows_right :
          ((u : ℕ) → Among u (units supply) → IsRight (study_row u)) →
          RowPerUnit supply (map study_row (units supply)) × All IsRight (map study_row (units supply))
      rows_right right = (decided-per-unit, all_of (map study_row (units supply)) each)
        where
          each : (r : AnswerRow) → Among r (map study_row (units supply)) → IsRight r
          each r m =
              let made = of_map study_row (units supply) m in
              subst IsRight made.2 (right made.0 made.1)

      pub rows-only :
          ((r : AnswerRow) → Among r.unit (units supply) → IsRight r → r ≡ study_row r.unit) →
          (rs : List AnswerRow) → RowPerUnit supply rs → All IsRight rs → rs ≡ map study_row (units supply)
      rows-only only rs per-unit every-row =
          made-from-units study_row (all_of rs each) ∙ ap (map study_row) (units-shown rs per-unit)
        where
          each : (r : AnswerRow) → Among r rs → r ≡ study_row r.unit
          each r m =
              let found = per-unit.a_unit r m in
              let listed : Among r.unit (units supply) =
              rw (sym found.1.its-unit) (row-has-unit supply found.0 found.1.a-row)
              in
              only r listed (all-mem every-row m)
