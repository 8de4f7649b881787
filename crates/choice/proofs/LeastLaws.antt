-- What is kept of some candidates, one after the other, is the least of them. Assumes nothing.
use Rattle.std.specs.Prelude.{None, Option, Some}
use Prim.Native.Nat.{◌≤◌, ◌<◌}
use mathlib.Core.Path.{◌≡◌, refl}
use mathlib.Core.Logic.{⊎_elim}
use mathlib.Core.Bool.{Bool, true, false, cond, ◌&&◌, ◌||◌}
use mathlib.Core.List.Memᴰ.{cases_cons as among_cases}
use mathlib.Core.List.Memᴰ.{head as first}
use mathlib.Core.List.Memᴰ.{not-nil}
use mathlib.Core.List.Memᴰ.{tail as later}
use mathlib.Core.List.{List, [], ◌∷◌, Memᴰ as Among}
use native.Mathlib.Omega.{arith}
use lib.Dec.{ltb, eqb}
use borrow.Author.Tests.{ltb-true, ltb-false, eqb-true, eqb-false, lt-ltb, le-ltb, eq-eqb, ne_eqb}
use Rattle.choice.specs.declared.choices.Choice.{Choice}
use Rattle.choice.specs.Choosing.{better, kept, kept_all}

-- a costs no more than b, and has no larger number where they cost the same
pub record NoWorse (a b : Choice) : Type 0 where
  pub costs : a.cost ≤ b.cost
  pub number : b.cost ≡ a.cost → a.schedule ≤ b.schedule

self : (a : Choice) → NoWorse a a
self a = record { costs = omega arith; number = λ e. omega arith }

chained : {a b c : Choice} → NoWorse a b → NoWorse b c → NoWorse a c
chained {a} {b} {c} x y =
    record {
      costs = omega (arith, x.costs, y.costs);
      number = λ e. omega (arith, x.number (omega (arith, x.costs, y.costs)), y.number (omega (arith, x.costs, y.costs)));
    }

-- the two ways of comparing
better-cases : (a b : Choice) (Q : Bool → Type 0) → (NoWorse a b → Q true) → (NoWorse b a → Q false) → Q (better a b)
unfolding better
better-cases a b Q is isn't =
    go (ltb a.cost b.cost) (eqb a.cost b.cost) (ltb a.schedule b.schedule) refl refl refl
  where
    go :
        (t u v : Bool) → ltb a.cost b.cost ≡ t → eqb a.cost b.cost ≡ u →
        ltb a.schedule b.schedule ≡ v →
        Q (t || u && v)
    go true u v e f g =
        let less : a.cost < b.cost = ltb-true _ _ e in
        is (record { costs = omega arith; number = λ h. absurd (omega arith) })
    go false true true e f g =
        let same : a.cost ≡ b.cost = eqb-true _ _ f in
        let smaller : a.schedule < b.schedule = ltb-true _ _ g in
        is (record { costs = omega arith; number = λ h. omega arith })
    go false true false e f g =
        let same : a.cost ≡ b.cost = eqb-true _ _ f in
        let larger : b.schedule ≤ a.schedule = ltb-false _ _ g in
        isn't (record { costs = omega arith; number = λ h. omega arith })
    go false false v e f g =
        isn't (record { costs = ltb-false _ _ e; number = λ h. absurd (eqb-false _ _ f h) })

-- nothing is kept of no candidates, and else the least
pub data Least (cs : List Choice) : Option Choice → Type 0 where
  no-candidate : cs ≡ [] → Least cs None
  least-one : {c : Choice} → Among c cs → ((o : Choice) → Among o cs → NoWorse c o) → Least cs (Some c)

-- one candidate more
least_more : {cs : List Choice} (d : Choice) {b : Option Choice} → Least cs b → Least (d ∷ cs) (kept b d)
unfolding kept
least_more d (no-candidate e) =
    least-one (first refl) (λ o m. ⊎_elim (λ f. rw f (self d)) (λ n. absurd (not-nil (rw e at n))) (among_cases m))
least_more {cs} d (least-one {c = c} m all) =
    better-cases d c (λ (t : Bool). Least (d ∷ cs) (cond t (Some d) (Some c)))
    (λ n. least-one (first refl) (λ o k. ⊎_elim (λ f. rw f (self d)) (λ l. chained n (all o l)) (among_cases k)))
    (λ n. least-one (later m) (λ o k. ⊎_elim (λ f. rw f n) (all o) (among_cases k)))

pub least_kept : (cs : List Choice) → Least cs (kept_all cs)
unfolding kept_all
least_kept [] = no-candidate refl
least_kept (d ∷ cs) = least_more d (least_kept cs)

-- the three ways of comparing, as the code goes
module _ (a b : Choice) where
  pub better-cheaper : a.cost < b.cost → better a b ≡ true
  unfolding better
  better-cheaper h = simp (lt-ltb _ _ h)

  pub better-same : a.cost ≡ b.cost → better a b ≡ ltb a.schedule b.schedule
  unfolding better
  better-same h = simp (le-ltb a.cost b.cost (omega arith), eq-eqb _ _ h)

  pub better-dearer : b.cost < a.cost → better a b ≡ false
  unfolding better
  better-dearer h = simp (le-ltb a.cost b.cost (omega arith), ne_eqb a.cost b.cost (λ e. absurd (omega arith)))
