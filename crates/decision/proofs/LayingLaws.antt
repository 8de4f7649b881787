-- Laws of laying down the rows of units that have been tested, one after the other, and of what was laid down. Assumes
-- nothing.
use Rattle.std.specs.Prelude.{Err, Ok, Option, Some}
use Prim.Native.Nat.{ℕ, ◌+◌, ◌*◌, ◌-◌, ◌≤◌, ◌<◌}
use mathlib.Core.Path.{◌≡◌, refl, sym, ◌∙◌, ap}
use mathlib.Core.Bool.{Bool, true, false, not}
use mathlib.Core.List.{List, [], ◌∷◌, ◌++◌, map, append_assoc, append-nil}
use native.Mathlib.Omega.{arith}
use borrow.Author.Tests.{not-true, not-false}
use lib.ListN.{length, get_or, take, drop, length-append, length-drop, length-map, take-append-drop}
use lib.Seq.{take_at, drop_at, get_or-take, length-take-le}
use Rattle.base.specs.Search.{find}
use Rattle.base.proofs.Lists.{drop-next, drop-end, rest-lent, rest_back}
use Rattle.tables.specs.Rows.{ScheduleRow}
use Rattle.tables.specs.declared.answer.AnswerRow.{AnswerRow}
use Rattle.tables.specs.declared.files.Kind.{Kind}
use Rattle.tables.specs.promises.FlatRows.{rows_of}
use Rattle.schedules.specs.Schedules.{own}
use Rattle.cells.specs.promises.Views.{answer_width, answer_rows}
use Rattle.outcome.specs.Day.{RunningUnit, kind_running}
use Rattle.outcome.specs.Decision.{lacks_cost}
use Rattle.decision.specs.promises.Choosing.{lacks_cost_on, answer_cells, row_chosen, tested_units, RowChosen, ChoosesRows}
use Rattle.decision.specs.declared.testing.UnitTest.{UnitTest}

-- a run of cells with some rows laid down from its start
unfoldable pub laid_rows : List AnswerRow → List ℕ → List ℕ
laid_rows [] out = out
laid_rows (r ∷ rs) out = answer_cells r ++ laid_rows rs (drop answer_width out)

rows-laid : (rs : List AnswerRow) (out : List ℕ) → answer_rows (length rs) (laid_rows rs out) ≡ rs
unfolding laid_rows answer_rows rows_of
rows-laid [] out = refl
rows-laid (r ∷ rs) out = ap (λ (more : List AnswerRow). r ∷ more) (rows-laid rs (drop answer_width out))

-- what a place past an array's end is read as
abbrev pub unread : UnitTest
unread = record { unit = 0; supplier = 0; verdict = 0; left = 0; exposed = false }

module _ (h : ℕ) (scheduled : List ScheduleRow) (running : List RunningUnit) (k : ℕ) (tests : List UnitTest) (old : List ℕ) where
  abbrev ts : List UnitTest
  ts = take k tests

  abbrev named_in : List UnitTest → Option ℕ
  named_in us = find (lacks_cost h scheduled running) (tested_units us)

  abbrev rows : List UnitTest → List AnswerRow
  rows us = map (row_chosen h scheduled running) us

  -- what holds before unit i: 21 names none of the units before, and their rows are laid down
  pub record Laying (now : List ℕ) (i : ℕ) : Type 0 where
    pub upto : i ≤ k
    pub there : k ≤ length tests
    pub room : k * answer_width ≤ length old
    pub none_before : named_in ts ≡ named_in (drop i ts)
    pub laid : laid_rows (rows ts) old ≡ take (i * answer_width) now ++ laid_rows (rows (drop i ts)) (drop (i * answer_width) now)
    pub same_length : length now ≡ length old

  module _ (now : List ℕ) (i : ℕ) (l : Laying now i) where
    long : length ts ≡ k
    long = length-take-le k tests l.there

    pub laying-over : k ≤ i → ChoosesRows h scheduled running ts k now (Ok tt)
    unfolding find laid_rows
    laying-over z =
        let none_left : drop i ts ≡ [] = drop-end i ts (omega (arith, long)) in
        let done : laid_rows (rows ts) old ≡ now = l.laid ∙ rw none_left (take-append-drop (i * 7) now) in
        let counted : length (rows ts) ≡ k = length-map ts (row_chosen h scheduled running) ∙ long in
        record {
          answers = rw (l.none_before, none_left);
          rows = λ _. rw (← done) (rw counted at (rows-laid (rows ts) old));
        }

    -- the next unit, and its part of the run
    module _ (inside : i < k) (t : UnitTest) (is : t ≡ get_or tests i unread) where
      next : drop i ts ≡ t ∷ drop (i + 1) ts
      next =
          drop-next unread i ts (omega (arith, long))
          ∙ rw (is, get_or-take k tests i unread inside)

      module _
          (day : Option Kind) (its-kind : day ≡ kind_running t.unit running) {after : List ℕ} {r : Bool}
          (chosen : RowChosen h (own t.unit scheduled) day t (take (length now - i * answer_width) (drop (i * answer_width) now)) after r)
        where
          lacks : lacks_cost_on day h (own t.unit scheduled) ≡ lacks_cost h scheduled running t.unit
          unfolding lacks_cost_on lacks_cost
          lacks = rw its-kind

          pub laying-without-cost : not r ≡ true → (new : List ℕ) → ChoosesRows h scheduled running ts k new (Err (record { unit = t.unit }))
          unfolding find
          laying-without-cost e new =
              let costless : lacks_cost h scheduled running t.unit ≡ true =
              sym lacks ∙ not-false _ (sym chosen.answers ∙ not-true r e) in
              let named : named_in ts ≡ Some t.unit = l.none_before ∙ rw (next, costless) in
              record {
                answers = rw named;
                rows = λ z. let o : ◌≡◌ {A = ℕ} 0 1 = cc in absurd (omega arith);
              }

          laid-row : r ≡ true → after ≡ answer_cells (row_chosen h scheduled running t) ++ drop 7 (drop (i * 7) now)
          unfolding row_chosen
          laid-row g = rw (its-kind, rest-lent (i * 7) now) at (chosen.laid g)

          module _
              (new : List ℕ)
              (f : new ≡ take (i * answer_width) now ++ (after ++ drop (length now - i * answer_width) (drop (i * answer_width) now)))
            where
              put_back : new ≡ take (i * 7) now ++ after
              put_back = f ∙ rw (rest_back (i * 7) now, append-nil after)

              pub laying-length : length new ≡ length old
              laying-length =
                  let part : length (take (length now - i * 7) (drop (i * 7) now)) ≡ length now - i * 7 =
                  rw (rest-lent (i * 7) now) (length-drop (i * 7) now) in
                  ap length put_back ∙ length-append (take (i * 7) now) after
                  ∙ omega (arith, length-take-le (i * 7) now (omega (arith, l.same_length, l.room)), chosen.same_length, part, l.same_length, l.room)

              pub laying-next : not r ≡ false → Laying new (i + 1)
              unfolding find laid_rows
              laying-next e =
                  let kept : lacks_cost h scheduled running t.unit ≡ false =
                  sym lacks ∙ not-true _ (sym chosen.answers ∙ not-false r e) in
                  let row = answer_cells (row_chosen h scheduled running t) in
                  let front = take (i * 7) now ++ row in
                  let rest = drop 7 (drop (i * 7) now) in
                  let whole : new ≡ front ++ rest =
                  put_back ∙ rw (laid-row (not-false r e)) (sym (append_assoc (take (i * 7) now) row rest)) in
                  let front_long : length front ≡ (i + 1) * 7 =
                  length-append (take (i * 7) now) row
                  ∙ rw (length-take-le (i * 7) now (omega (arith, l.same_length, l.room))) (omega arith) in
                  let before : take ((i + 1) * 7) new ≡ front = rw whole (take_at front rest _ front_long) in
                  let behind : drop ((i + 1) * 7) new ≡ rest = rw whole (drop_at front rest _ front_long) in
                  record {
                    upto = omega arith;
                    there = l.there;
                    room = l.room;
                    none_before = l.none_before ∙ rw (next, kept);
                    laid =
                        l.laid
                        ∙ rw (next, before, behind)
                        (sym (append_assoc (take (i * 7) now) row (laid_rows (rows (drop (i + 1) ts)) rest)));
                    same_length = laying-length;
                  }
