-- The choice is just what demand 3 asks, both ways, and there is one exactly when some schedule is eligible. Assumes nothing.
use Rattle.std.specs.Prelude.{Option, Some}
use Prim.Native.Nat.{ℕ, ◌≤◌}
use mathlib.Core.Path.{◌≡◌, refl, sym, ◌∙◌, ap, subst}
use mathlib.Core.Logic.{◌↔◌, ⊎_elim}
use mathlib.Core.Bool.{Bool}
use mathlib.Core.List.Memᴰ.{not-nil}
use mathlib.Core.List.{List, Memᴰ as Among}
use native.Mathlib.Omega.{arith}
use Rattle.base.proofs.Tests.{eq-or-ne}
use Rattle.tables.specs.Rows.{ScheduleRow}
use Rattle.tables.specs.declared.files.Kind.{Kind}
use Rattle.choice.specs.declared.choices.Choice.{Choice}
use Rattle.choice.specs.Cost.{cost}
use Rattle.choice.specs.Schedules.{schedules, is_running, eligible_schedule}
use Rattle.choice.specs.Choosing.{shown, candidates, choice}
use Rattle.choice.specs.Right.{Eligible, RightChoice}
use Rattle.choice.specs.promises.OneRow.{OneRowEach}
use Rattle.base.proofs.Elements.{mem-those, those-mem, mem-map, map-mem}
use Rattle.choice.proofs.LeastLaws.{NoWorse, Least, no-candidate, least-one, least_kept}

module _ (day : Option Kind) (exposed : Bool) (h : ℕ) (rows : List ScheduleRow) where
  -- a candidate is an eligible schedule as an answer shows it
  candidate : (row : ScheduleRow) → Eligible day exposed h rows row → Among (shown day h rows row) (candidates day exposed h rows)
  unfolding candidates
  candidate row e =
      mem-map (shown day h rows) (mem-those (eligible_schedule day exposed (schedules h rows)) e.of-the-unit e.passes)

  of-a-row :
      (c : Choice) → Among c (candidates day exposed h rows) →
      (row : ScheduleRow) × Eligible day exposed h rows row × (c ≡ shown day h rows row)
  unfolding candidates
  of-a-row c m =
      let (row, n, e) = map-mem (shown day h rows) _ m in
      let (k, t) = those-mem (eligible_schedule day exposed (schedules h rows)) (schedules h rows) n in
      (row, record { of-the-unit = k; passes = t }, e)

  chosen : Least (candidates day exposed h rows) (choice day exposed h rows)
  unfolding choice
  chosen = least_kept (candidates day exposed h rows)

  right : {o : Option Choice} → Least (candidates day exposed h rows) o → (c : Choice) → o ≡ Some c → RightChoice day exposed h rows c
  unfolding shown
  right (no-candidate _) c e = let z : ◌≡◌ {A = ℕ} 0 1 = cc in absurd (omega arith)
  right (least-one {c = d} m all) c e =
      let (row, el, s) = of-a-row d m in
      let same : d ≡ c = cc in
      subst (RightChoice day exposed h rows) same
      (record {
        row = row;
        is-eligible = el;
        shows = s;
        least = λ other k. omega (arith, (all (shown day h rows other) (candidate other k)).costs);
        smallest = λ other k f differs. omega (arith, (all (shown day h rows other) (candidate other k)).number f, differs);
      })

  -- a candidate that is no worse than the right choice is the right choice
  only :
      OneRowEach h rows → {c d : Choice} → RightChoice day exposed h rows c → Among d (candidates day exposed h rows) → NoWorse d c →
      d ≡ c
  unfolding shown
  only distinct {c} {d} r m n =
      let (row, el, s) = of-a-row d m in
      let number : d.schedule ≡ row.schedule = ap (λ (x : Choice). x.schedule) s in
      let costs : cost (is_running day) h rows row ≡ c.cost = omega (arith, n.costs, r.least row el, ap (λ (x : Choice). x.cost) s) in
      let no-larger : d.schedule ≤ c.schedule = n.number (omega (arith, ap (λ (x : Choice). x.cost) s)) in
      ⊎_elim
      (λ e.
      let its-row = distinct.same row r.row el.of-the-unit r.is-eligible.of-the-unit (e ∙ ap (λ (x : Choice). x.schedule) r.shows) in
      s ∙ ap (shown day h rows) its-row ∙ sym r.shows)
      (λ e. absurd (omega (arith, r.smallest row el costs (omega arith))))
      (eq-or-ne row.schedule c.schedule)

  is-candidate : {c : Choice} → RightChoice day exposed h rows c → Among c (candidates day exposed h rows)
  is-candidate r = rw r.shows (candidate r.row r.is-eligible)

  kept-right :
      OneRowEach h rows → {o : Option Choice} → Least (candidates day exposed h rows) o → (c : Choice) →
      RightChoice day exposed h rows c →
      o ≡ Some c
  kept-right distinct (no-candidate e) c r = absurd (not-nil (rw e at (is-candidate r)))
  kept-right distinct (least-one m all) c r = ap Some (only distinct r m (all c (is-candidate r)))

  pub choice-right :
      OneRowEach h rows → (c : Choice) → (choice day exposed h rows ≡ Some c) ↔ RightChoice day exposed h rows c
  choice-right distinct c = (right chosen c, kept-right distinct chosen c)

  -- there is a choice exactly when some schedule is eligible
  found :
      {o : Option Choice} → Least (candidates day exposed h rows) o → (row : ScheduleRow) → Eligible day exposed h rows row →
      (c : Choice) × (o ≡ Some c)
  found (no-candidate e) row el = absurd (not-nil (rw e at (candidate row el)))
  found (least-one {c = d} m all) row el = (d, refl)

  pub choice-exists :
      ((c : Choice) × (choice day exposed h rows ≡ Some c)) ↔ ((row : ScheduleRow) × Eligible day exposed h rows row)
  choice-exists = (
    λ x.
        let r = right chosen x.0 x.1 in
        (r.row, r.is-eligible),
    λ x. found chosen x.0 x.1,
  )
