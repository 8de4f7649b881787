-- Laws of rows at odds, over plain lists: a pair of rows, a row against those before it, and the first such row. Assumes
-- nothing.
use Rattle.std.specs.Prelude.{None, Some}
use Prim.Native.Nat.{ℕ, zero, suc, ◌+◌, ◌≤◌, ◌<◌}
use mathlib.Core.Path.{◌≡◌, refl, sym, ◌∙◌}
use mathlib.Core.Logic.{⊎_elim}
use mathlib.Core.Bool.{Bool, true, false, not, or-true, or-false}
use mathlib.Core.List.Memᴰ.{head}
use mathlib.Core.List.Memᴰ.{tail as later}
use mathlib.Core.List.{List, Memᴰ as Among}
use native.Mathlib.Omega.{arith}
use native.Mathlib.Numerals.{add-one}
use lib.Dec.{eqb}
use lib.ListN.{get_or, drop}
use borrow.Author.Tests.{eq-eqb, ne_eqb}
use Rattle.base.specs.Search.{any, first_at_odds}
use Rattle.base.proofs.Elements.{none-mem}
use Rattle.base.proofs.SearchLaws.{odds-none}
use Rattle.base.proofs.Tests.{eq-or-ne, lt-or-ge, false-true}
use Rattle.tables.specs.Rows.{ScheduleRow}
use Rattle.tables.specs.Table.{M}
use Rattle.tables.specs.promises.FlatRows.{schedule_rows}
use Rattle.cells.specs.promises.Views.{schedule_at}
use Rattle.cells.proofs.RowViews.{schedule-next}
use Rattle.schedules.specs.promises.Answers.{schedules_before, odd_with, alike, both_market}
use Rattle.links.specs.promises.Links.{LinkedTo, Along, unit_key, schedule_key}
use Rattle.schedules.specs.Schedules.{same_schedule, unlike, repeats, second_m, schedule_odds, schedules_at_odds}
use Rattle.links.proofs.LinkLaws.{along-row}
use Rattle.schedules.proofs.ScheduleLaws.{rows_end}

-- two rows, by the tests in their order
module _ (r e : ScheduleRow) where
  pub odds-units : (r.unit ≡ e.unit → ⊥) → false ≡ schedule_odds r e
  unfolding same_schedule unlike repeats second_m schedule_odds
  odds-units u = simp (ne_eqb r.unit e.unit u)

  pub odds-schedules : r.unit ≡ e.unit → (r.schedule ≡ e.schedule → ⊥) → both_market r e ≡ schedule_odds r e
  unfolding same_schedule unlike repeats second_m schedule_odds both_market
  odds-schedules u s = simp (eq-eqb r.unit e.unit u, ne_eqb r.schedule e.schedule s)

  module _ (u : r.unit ≡ e.unit) (s : r.schedule ≡ e.schedule) where
    pub odds-hours : r.hour ≡ e.hour → true ≡ schedule_odds r e
    unfolding same_schedule unlike repeats second_m schedule_odds alike
    odds-hours h =
        sym (simp (eq-eqb r.unit e.unit u, eq-eqb r.schedule e.schedule s, eq-eqb r.hour e.hour h, or-true, or-false))

    pub odds-alike : (r.hour ≡ e.hour → ⊥) → not (alike r e) ≡ schedule_odds r e
    unfolding same_schedule unlike repeats second_m schedule_odds alike
    odds-alike h =
        sym (simp (eq-eqb r.unit e.unit u, eq-eqb r.schedule e.schedule s, ne_eqb r.hour e.hour h, or-false))

  pub market-not : (r.kind ≡ M → ⊥) → false ≡ both_market r e
  unfolding both_market
  market-not k = simp (ne_eqb r.kind M k)

  pub market-first : (x : ℕ) → r.kind ≡ M → x ≡ e.kind → eqb x M ≡ both_market r e
  unfolding both_market
  market-first x k is = rw is (simp (eq-eqb r.kind M k))

  pub unlike-kinds : (r.kind ≡ e.kind → ⊥) → true ≡ not (alike r e)
  unfolding alike
  unlike-kinds k = simp (ne_eqb r.kind e.kind k)

  module _ (k : r.kind ≡ e.kind) where
    pub unlike-startups : (r.startup ≡ e.startup → ⊥) → true ≡ not (alike r e)
    unfolding alike
    unlike-startups s = simp (eq-eqb r.kind e.kind k, ne_eqb r.startup e.startup s)

    pub unlike-minruns :
        (x y : ℕ) → r.startup ≡ e.startup → x ≡ r.minrun → y ≡ e.minrun → not (eqb x y) ≡ not (alike r e)
    unfolding alike
    unlike-minruns x y s is is-e = rw (is, is-e) (simp (eq-eqb r.kind e.kind k, eq-eqb r.startup e.startup s))

-- rows at odds are of one unit, and of one schedule where the later is not market-based
module _ (r e : ScheduleRow) (odd : schedule_odds r e ≡ true) where
  odd-unit : r.unit ≡ e.unit
  odd-unit = ⊎_elim (λ u. u) (λ u. false-true (odds-units r e u ∙ odd)) (eq-or-ne r.unit e.unit)

  odd-schedule : (r.kind ≡ M → ⊥) → r.schedule ≡ e.schedule
  odd-schedule k =
      ⊎_elim (λ s. s) (λ s. false-true (market-not r e k ∙ odds-schedules r e odd-unit s ∙ odd)) (eq-or-ne r.schedule e.schedule)

-- row k against the rows before it, along links
module _ (cells : List ℕ) where
  module _ (k : ℕ) (links : List ℕ) where
    pub along-units : LinkedTo (unit_key cells) k links → Along (odd_with cells k) k links (get_or links k 0)
    along-units l = along-row (unit_key cells) (odd_with cells k) k links l alike
      where
        alike : (j : ℕ) → odd_with cells k j ≡ true → unit_key cells j ≡ unit_key cells k
        alike j odd = rw (odd-unit (schedule_at cells k) (schedule_at cells j) odd)

    pub along-schedules :
        ((schedule_at cells k).kind ≡ M → ⊥) → LinkedTo (schedule_key cells) k links →
        Along (odd_with cells k) k links (get_or links k 0)
    along-schedules m l = along-row (schedule_key cells) (odd_with cells k) k links l alike
      where
        alike : (j : ℕ) → odd_with cells k j ≡ true → schedule_key cells j ≡ schedule_key cells k
        alike j odd =
            rw (
              odd-unit (schedule_at cells k) (schedule_at cells j) odd,
              odd-schedule (schedule_at cells k) (schedule_at cells j) odd m,
            )

-- of n rows k are passed, none of them at odds
pub record Agreeing (n : ℕ) (cells : List ℕ) (k : ℕ) : Type 0 where
  pub rest :
      schedules_at_odds (schedule_rows n cells)
      ≡ first_at_odds schedule_odds (schedules_before cells k) (suc k) (drop k (schedule_rows n cells))

module _ (n : ℕ) (cells : List ℕ) where
  pub agreeing-none : Agreeing n cells 0
  unfolding schedules_at_odds schedules_before
  agreeing-none = record { rest = refl }

  module _ (k : ℕ) (t : Bool) (l : Agreeing n cells k) (h : k < n) (is : t ≡ any (schedule_odds (schedule_at cells k)) (schedules_before cells k)) where
    pub agreeing-here : t ≡ true → Some (k + 1) ≡ schedules_at_odds (schedule_rows n cells)
    unfolding first_at_odds
    agreeing-here e = rw (l.rest, schedule-next n cells k h, ← is, e, add-one k)

    pub agreeing-next : t ≡ false → Agreeing n cells (k + 1)
    unfolding first_at_odds schedules_before
    agreeing-next e = record { rest = l.rest ∙ rw (schedule-next n cells k h, ← is, e, add-one k) }

  pub agreeing-over : (k : ℕ) → Agreeing n cells k → n ≤ k → None ≡ schedules_at_odds (schedule_rows n cells)
  unfolding first_at_odds
  agreeing-over k l h = rw (l.rest, rows_end n cells k h)

-- where no row is at odds with an earlier one, rows of one schedule and hour are one row
module _ (n : ℕ) (cells : List ℕ) (agree : schedules_at_odds (schedule_rows n cells) ≡ None) where
  none_before : (k : ℕ) → Agreeing n cells k → k < n → any (schedule_odds (schedule_at cells k)) (schedules_before cells k) ≡ false
  none_before k l h =
      (odds-none schedule_odds (schedules_before cells k) (suc k) (schedule_at cells k) (drop (k + 1) (schedule_rows n cells))
      (rw (schedule-next n cells k h) at (sym l.rest ∙ agree))).0

  agreed-upto : (k : ℕ) → k ≤ n → Agreeing n cells k
  agreed-upto zero h = agreeing-none n cells
  agreed-upto (suc k) h =
      let l = agreed-upto k (omega arith) in
      let next : Agreeing n cells (k + 1) = agreeing-next n cells k _ l (omega arith) refl (none_before k l (omega arith)) in
      rw (add-one k) at next

  before-mem : (k j : ℕ) → j < k → Among (schedule_at cells j) (schedules_before cells k)
  unfolding schedules_before
  before-mem zero j h = absurd (omega arith)
  before-mem (suc k) j h = ⊎_elim (λ (e : j ≡ k). rw e (head refl)) (λ (e : j ≡ k → ⊥). later (before-mem k j (omega arith))) (eq-or-ne j k)

  none-earlier : (k j : ℕ) → j < k → k < n → schedule_odds (schedule_at cells k) (schedule_at cells j) ≡ false
  none-earlier k j h i =
      none-mem (schedule_odds (schedule_at cells k)) (schedules_before cells k) (schedule_at cells j)
      (none_before k (agreed-upto k (omega arith)) i)
      (before-mem k j h)

  module _
      (j k : ℕ) (in-j : j < n) (in-k : k < n) (u : (schedule_at cells j).unit ≡ (schedule_at cells k).unit)
      (s : (schedule_at cells j).schedule ≡ (schedule_at cells k).schedule) (h : (schedule_at cells j).hour ≡ (schedule_at cells k).hour)
    where
      pub one-row : j ≡ k
      one-row =
          ⊎_elim
          (λ (e : j ≡ k). e)
          (λ (e : j ≡ k → ⊥). ⊎_elim before (λ (i : k ≤ j). behind (omega arith)) (lt-or-ge j k))
          (eq-or-ne j k)
        where
          before : j < k → j ≡ k
          before i = false-true (sym (odds-hours (schedule_at cells k) (schedule_at cells j) (sym u) (sym s) (sym h) ∙ none-earlier k j i in-k))

          behind : k < j → j ≡ k
          behind i = false-true (sym (odds-hours (schedule_at cells j) (schedule_at cells k) u s h ∙ none-earlier j k i in-j))
