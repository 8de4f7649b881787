-- From a market decided by groups to the study of the supply file as it was written: cells by groups are such as deciding asks for,
-- refusals are the same, and rows show the suppliers of the supply file. Assumes nothing.
use Rattle.std.specs.Prelude.{None, Option, Result, Some}
use Rattle.engine.specs.declared.deciding.DecidedRows.{DecidedRows}
use Prim.Native.Nat.{ℕ, ◌≤◌}
use mathlib.Core.Path.{◌≡◌, refl, sym, ◌∙◌, ap}
use mathlib.Core.Logic.{⊎_elim}
use mathlib.Core.List.{List, [], ◌∷◌, ◌++◌, map, append_assoc}
use native.Mathlib.Omega.{arith}
use lib.ListN.{length, take, length-map}
use Rattle.base.specs.Search.{first_of, All}
use Rattle.base.proofs.Elements.{all-mem, all_of}
use Rattle.base.proofs.FirstLaws.{first-of-between, first-of-parts-none}
use Rattle.base.proofs.Searches.{first-of-none}
use Rattle.base.proofs.Tests.{eq-or-ne}
use Rattle.tables.specs.promises.Ranges.{PermittedSupply}
use Rattle.tables.specs.Rows.{SupplyRow}
use Rattle.tables.specs.declared.answer.AnswerRow.{AnswerRow}
use Rattle.tables.specs.declared.constraint.ConstraintRow.{ConstraintRow}
use Rattle.tables.specs.declared.files.File.TheVariants.{Parents}
use Rattle.tables.specs.declared.files.Refusal.{Refusal}
use Rattle.tables.specs.promises.FlatRows.{supply_rows}
use Rattle.cells.specs.promises.Views.{answer_rows}
use Rattle.cells.proofs.RowViews.{answer-length}
use Rattle.supply.specs.Supply.{units}
use Rattle.affiliates.specs.Affiliates.{grouped}
use Rattle.affiliates.specs.promises.Laying.{SupplierCells}
use Rattle.affiliates.proofs.GroupLaws.{grouped-units, grouped-permitted, groups-few}
use Rattle.market.specs.Parties.{party, parties}
use Rattle.checking.specs.promises.Alone.{rows_unless}
use Rattle.checking.specs.Files.{schedules_of, parents_of, alone_refusals, schedules_refusals, curves_refusals, units_refusals, beside_refusals}
use Rattle.checking.specs.promises.Curves.{priced_rows}
use Rattle.checking.specs.promises.Parents.{ParentsChecked}
use Rattle.checking.specs.promises.Rules.{refusal_in}
use Rattle.checking.proofs.KeptLaws.{parents-kept}
use Rattle.checking.proofs.ParentsLaws.{no-groups}
use Rattle.outcome.proofs.StudyLetters.{decided-lettered}
use Rattle.decision.specs.promises.Naming.{supplier_of, all_named, RowsNamed}
use Rattle.decision.specs.promises.Standing.{MarketCells}
use Rattle.decision.specs.promises.Units.{UnitsOf}
use Rattle.decision.proofs.NamingLaws.{named-rows}
use Rattle.outcome.specs.Day.{DayView}
use Rattle.outcome.specs.Decision.{decided_row, decided, no_cost_schedule}
use Rattle.outcome.specs.Study.{rows_refusals}
use Rattle.outcome.proofs.RowsToBytes.{shown_unit, rows-units}
use Rattle.engine.specs.promises.Deciding.{RowsReady, DecidesMarket, DecidesGroups, ShownListed}
use Rattle.engine.specs.View.{view_of}
use Rattle.engine.specs.declared.day.Day.{Day}
use Rattle.engine.proofs.StudyCells.{parties-suppliers}

-- the refusal that an answer goes by
waits : (o : Option Refusal) (m : ℕ) → refusal_in (rows_unless o m) ≡ o
waits None m = refl
waits (Some x) m = refl

-- what checking parents asks of the rows of supply
pub supplier-cells : (c : ConstraintRow) (n : ℕ) (cells : List ℕ) → MarketCells c n cells → SupplierCells n cells
supplier-cells c n cells m = record { inside = m.rows.inside; ranged = λ r i. (m.rows.permitted r i).supplier }

-- suppliers that are listed, or none
module _ (p : List ℕ) (k : ℕ) (rows : List SupplyRow) (run : List ℕ) where
  pub none-listed : length p ≡ 0 → ShownListed p k rows run 0
  none-listed e = record { none-listed = λ _. refl; all_listed = λ some_bytes. absurd (some_bytes e) }

  pub all_listed :
      (length p ≡ 0 → ⊥) → take k run ≡ map (supplier_of rows) (units rows) → ShownListed p k rows run k
  all_listed some_bytes listed =
      record { none-listed = λ e. absurd (some_bytes e); all_listed = λ _. (refl, listed) }

  pub listed-few : (r : ℕ) → ShownListed p k rows run r → r ≤ k
  listed-few r listed =
      ⊎_elim
      (λ (e : length p ≡ 0). omega (arith, listed.none-listed e))
      (λ (e : length p ≡ 0 → ⊥). omega (arith, (listed.all_listed e).0))
      (eq-or-ne (length p) 0)

-- the third of four parts, by those before it and those behind
regrouped : {A : Type 0} (a b c d e : List A) → (a ++ (b ++ (c ++ d))) ++ e ≡ (a ++ b) ++ (c ++ (d ++ e))
regrouped a b c d e =
    rw (append_assoc a (b ++ (c ++ d)) e, append_assoc b (c ++ d) e, append_assoc c d e, append_assoc a b (c ++ (d ++ e)))

module _ (p : List ℕ) (n : ℕ) (old new : List ℕ) {q : Result ℕ Refusal} (checked : ParentsChecked p n old new q) where
  abbrev waiting : Option Refusal
  waiting = first_of (alone_refusals Parents p)

  -- a property of rows that grouping keeps holds of the rows now
  now-has : (P : List SupplyRow → Type 0) → P (supply_rows n old) → (waiting ≡ None → P (grouped (parents_of p) (supply_rows n old))) → P (supply_rows n new)
  now-has P before after = go waiting refl
    where
      go : (o : Option Refusal) → waiting ≡ o → P (supply_rows n new)
      go None e = rw (checked.by-groups e) (after e)
      go (Some x) e = rw (checked.as_before x e) before

  pub same_units : units (supply_rows n new) ≡ units (supply_rows n old)
  same_units = now-has (λ (rs : List SupplyRow). units rs ≡ units (supply_rows n old)) refl (λ _. grouped-units (parents_of p) (supply_rows n old))

  pub units-grouped : (k : ℕ) (us : List ℕ) → UnitsOf k (supply_rows n old) us → UnitsOf k (supply_rows n new) us
  units-grouped k us u =
      record {
        few = u.few;
        there = u.there;
        counted = rw same_units u.counted;
        listed = rw same_units u.listed;
        rising = rw same_units u.rising;
      }

  few-groups : length (parties (supply_rows n old)) ≤ 32 → length (parties (supply_rows n new)) ≤ 32
  unfolding parties party
  few-groups h =
      now-has (λ (rs : List SupplyRow). length (parties rs) ≤ 32) h
      (λ _. omega (arith, groups-few (parents_of p) (supply_rows n old), ap length (parties-suppliers (supply_rows n old))))

  permitted-groups : All PermittedSupply (supply_rows n old) → All PermittedSupply (supply_rows n new)
  unfolding alone_refusals
  permitted-groups a =
      now-has (All PermittedSupply) a (λ e. grouped-permitted (parents-kept p (first-of-none _ _ e).0) a)

  pub market-grouped : (c : ConstraintRow) → length new ≡ length old → MarketCells c n old → MarketCells c n new
  market-grouped c same m =
      record {
        permitted = m.permitted;
        rows =
            record {
              inside = rw same m.rows.inside;
              few = m.rows.few;
              permitted = λ r i. all-mem (permitted-groups (all_of (supply_rows n old) m.rows.permitted)) i;
            };
        few-parties = few-groups m.few-parties;
      }

  -- the same is refused
  module _ (d : DayView) (c : ConstraintRow) (h k : List ℕ) where
    same-rows-refusals : rows_refusals d c (supply_rows n new) (priced_rows h k) ≡ rows_refusals d c (supply_rows n old) (priced_rows h k)
    unfolding rows_refusals no_cost_schedule
    same-rows-refusals = rw same_units

    same-refusal :
        first_of (beside_refusals (refusal_in q ∷ []) c.hour (units (supply_rows n new)) h k ++ rows_refusals d c (supply_rows n new) (priced_rows h k))
        ≡ first_of (beside_refusals (alone_refusals Parents p) c.hour (units (supply_rows n old)) h k ++ rows_refusals d c (supply_rows n old) (priced_rows h k))
    unfolding beside_refusals
    same-refusal =
        let us = units (supply_rows n old) in
        let scheduled = schedules_refusals us h in
        let curved = curves_refusals (schedules_of h) k in
        let lacks = units_refusals c.hour us (schedules_of h) in
        let rest = rows_refusals d c (supply_rows n old) (priced_rows h k) in
        let asked : refusal_in q ≡ waiting = rw checked.answers (waits waiting (length (parents_of p))) in
        rw (
          same_units,
          same-rows-refusals,
          asked,
          regrouped scheduled curved (waiting ∷ []) lacks rest,
          regrouped scheduled curved (alone_refusals Parents p) lacks rest,
        )
        (sym (first-of-between (scheduled ++ curved) (alone_refusals Parents p) (lacks ++ rest)))

  -- where nothing is refused nothing waits, and the rows are those of the groups
  module _ (d : DayView) (c : ConstraintRow) (h k : List ℕ) where
    none-waits :
        first_of (beside_refusals (alone_refusals Parents p) c.hour (units (supply_rows n old)) h k ++ rows_refusals d c (supply_rows n old) (priced_rows h k))
        ≡ None → waiting ≡ None
    unfolding beside_refusals
    none-waits e =
        let beside = (first-of-parts-none _ (rows_refusals d c (supply_rows n old) (priced_rows h k)) e).0 in
        let behind = (first-of-parts-none (schedules_refusals (units (supply_rows n old)) h) _ beside).1 in
        let further = (first-of-parts-none (curves_refusals (schedules_of h) k) _ behind).1 in
        (first-of-parts-none (alone_refusals Parents p) _ further).0

  module _
      (day : Day) (c : ConstraintRow) (h k rows : List ℕ) (r : Result DecidedRows Refusal)
      (decides : DecidesMarket day c (supply_rows n new) (refusal_in q) h k rows r)
    where
      abbrev decided_by : List SupplyRow → List SupplyRow → List AnswerRow
      decided_by supply shown = decided c supply (priced_rows h k) (view_of day).running shown

      abbrev groups : List SupplyRow
      groups = grouped (parents_of p) (supply_rows n old)

      -- whatever stands in the run of rows then, as long as it stands for the same decision with the suppliers of the supply file
      by-shown :
          (shown : List ℕ) →
          ((j : ℕ) → supply_rows n new ≡ groups → answer_rows j rows ≡ decided_by (supply_rows n new) (supply_rows n new) → RowsReady (view_of day).running j rows →
          (answer_rows j shown ≡ decided_by groups (supply_rows n old)) × (length shown ≡ length rows)) →
          DecidesGroups day c (supply_rows n old) h k p shown r
      unfolding decided
      by-shown shown stands =
          record {
            refuses = λ e g. sym (same-refusal (view_of day) c h k) ∙ decides.refuses e g;
            decides = λ found g.
                let laid = decides.decides found g in
                let accepted = sym (same-refusal (view_of day) c h k) ∙ laid.accepted in
                let by-groups = checked.by-groups (none-waits (view_of day) c h k accepted) in
                let (is, long) = stands found.count by-groups laid.laid laid.ready in
                record {
                  accepted = accepted;
                  at-hour = laid.at-hour;
                  laid = is;
                  ready = ready-too found.count is long by-groups laid.laid laid.ready;
                };
          }
        where
          ready-too :
              (j : ℕ) → answer_rows j shown ≡ decided_by groups (supply_rows n old) → length shown ≡ length rows → supply_rows n new ≡ groups →
              answer_rows j rows ≡ decided_by (supply_rows n new) (supply_rows n new) → RowsReady (view_of day).running j rows →
              RowsReady (view_of day).running j shown
          ready-too j is long by-groups was ready =
              let now-units : map shown_unit (answer_rows j shown) ≡ units groups =
              rw is (rows-units c groups (priced_rows h k) (view_of day).running (supply_rows n old) (units groups))
              in
              let were-units : map shown_unit (answer_rows j rows) ≡ units groups =
              rw (was, by-groups) (rows-units c groups (priced_rows h k) (view_of day).running groups (units groups))
              in
              record {
                few = ready.few;
                there = rw long ready.there;
                lettered = rw is (decided-lettered c groups (priced_rows h k) (view_of day).running (supply_rows n old));
                rising = rw now-units (rw were-units at ready.rising);
                fit = rw now-units (rw were-units at ready.fit);
              }

      -- the rows as they are, where there are no parents
      decided-alone : length p ≡ 0 → DecidesGroups day c (supply_rows n old) h k p rows r
      decided-alone empty =
          let own = no-groups p empty (supply_rows n old) in
          by-shown rows (λ j by-groups was ready. (was ∙ rw (by-groups, own), refl))

      -- the rows with the suppliers that were listed
      module _ (units-count : ℕ) (us : List ℕ) (of-supply : UnitsOf units-count (supply_rows n old) us) (names shown : List ℕ) (long : length shown ≡ length rows) where
        decided-named :
            take units-count names ≡ map (supplier_of (supply_rows n old)) (units (supply_rows n old)) →
            answer_rows units-count shown ≡ all_named (take units-count names) (answer_rows units-count rows) → DecidesGroups day c (supply_rows n old) h k p shown r
        unfolding decided
        decided-named listed are =
            by-shown shown
            (λ j by-groups was ready.
            let count : j ≡ units-count =
            omega (
              arith,
              answer-length j rows,
              ap length was,
              length-map (units (supply_rows n new)) (decided_row c (supply_rows n new) (priced_rows h k) (view_of day).running (supply_rows n new)),
              ap length same_units,
              of-supply.counted,
            )
            in (
              rw (count, are, listed, ← count, was, same_units, by-groups, grouped-units (parents_of p) (supply_rows n old))
                  (named-rows c groups (priced_rows h k) (view_of day).running (supply_rows n old) (units (supply_rows n old))),
              long,
            ))

        pub groups-decided :
            (count : ℕ) → ShownListed p units-count (supply_rows n old) names count → RowsNamed names count rows shown →
            DecidesGroups day c (supply_rows n old) h k p shown r
        groups-decided count listed are =
            ⊎_elim
            (λ (empty : length p ≡ 0). rw (are.none (listed.none-listed empty)) (decided-alone empty))
            (λ (some_bytes : length p ≡ 0 → ⊥).
            let (all, shown-ones) = listed.all_listed some_bytes in
            decided-named shown-ones (rw all at are.rows))
            (eq-or-ne (length p) 0)
