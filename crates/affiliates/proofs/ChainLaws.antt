-- The chain that is followed is the chain of `Chain`: the parent that is found, the records whose own chain comes back, and
-- the head. Assumes nothing.
use Rattle.std.specs.Prelude.{None, Option, Some, option_map, unwrap_or}
use Prim.Native.Nat.{ℕ, zero, suc, ◌+◌, ◌≤◌, ◌<◌}
use mathlib.Core.Path.{◌≡◌, refl, sym, ◌∙◌, ap}
use mathlib.Core.Logic.{◌⊎◌, inl, inr, ⊎_elim, ◌↔◌}
use mathlib.Core.Bool.{Bool, true, false, cond, not, ◌||◌, or-true}
use mathlib.Core.List.Memᴰ.{cases_cons as among_cases}
use mathlib.Core.List.Memᴰ.{head as here}
use mathlib.Core.List.Memᴰ.{not-nil as among_none}
use mathlib.Core.List.Memᴰ.{tail as later}
use mathlib.Core.List.{List, [], ◌∷◌, Memᴰ as Among}
use native.Mathlib.Omega.{arith}
use lib.Dec.{eqb}
use lib.ListN.{length, take, drop}
use borrow.Author.Tests.{eq-eqb, ne_eqb, eqb-true, eqb-false}
use Rattle.base.specs.Search.{find, first, those}
use Rattle.base.proofs.Elements.{mem-those, those-mem}
use Rattle.base.proofs.Finds.{those-here, those-later}
use Rattle.base.proofs.Lists.{among-drop}
use Rattle.base.proofs.Members.{for-cons}
use Rattle.base.proofs.SearchLaws.{some-none, none_found, Agree, same, behind, before, agree}
use Rattle.base.proofs.Searches.{option-map-none}
use Rattle.base.proofs.Tests.{false-true, either, eq-or-ne}
use Rattle.tables.specs.Rows.{ParentRow}
use Rattle.affiliates.specs.Affiliates.{parent_of, head_from, comes_back, head, same_supplier, given_twice, returns, ringed}
use Rattle.affiliates.specs.Chain.{Names, Leads, Leads.there, Leads.step, Chain, ComesBack}

-- where 35 is kept a supplier has one record at most
one-record :
    {ps : List ParentRow} → given_twice ps ≡ None → {r e : ParentRow} → Among r ps → Among e ps → r.supplier ≡ e.supplier → r ≡ e
unfolding given_twice same_supplier
one-record once {r} {e} m n s = go (agree same_supplier 1 once m n)
  where
    go : Agree same_supplier r e → r ≡ e
    go (same i) = i
    go (behind o) = absurd (eqb-false r.supplier e.supplier o s)
    go (before o) = absurd (eqb-false e.supplier r.supplier o (sym s))

-- and one parent
pub one_parent : {ps : List ParentRow} → given_twice ps ≡ None → {s p q : ℕ} → Names ps s p → Names ps s q → p ≡ q
one_parent once m n =
    let one = one-record once m.a-row n.a-row (m.its-supplier ∙ sym n.its-supplier) in
    sym m.its-parent ∙ rw one n.its-parent

abbrev its : ℕ → ParentRow → Bool
its s r = eqb r.supplier s

-- the search for a supplier's parent finds a record that names it, and misses none
module _ {s : ℕ} where
  pub names : {ps : List ParentRow} {p : ℕ} → parent_of ps s ≡ Some p → Names ps s p
  unfolding parent_of find
  names {ps = []} e = some-none (sym e)
  names {ps = r ∷ ps} {p} e = go (its s r) refl e names
    where
      behind : Names ps s p → Names (r ∷ ps) s p
      behind n =
          record { row = n.row; a-row = later n.a-row; its-supplier = n.its-supplier; its-parent = n.its-parent }

      go :
          (t : Bool) → its s r ≡ t →
          option_map (λ (r : ParentRow). r.parent) (cond t (Some r) (find (its s) ps)) ≡ Some p →
          (parent_of ps s ≡ Some p → Names ps s p) → Names (r ∷ ps) s p
      go true f e more =
          record { row = r; a-row = here refl; its-supplier = eqb-true r.supplier s f; its-parent = cc }
      go false f e more = behind (more e)

  pub unnamed : {ps : List ParentRow} → parent_of ps s ≡ None → (p : ℕ) → Names ps s p → ⊥
  unfolding parent_of
  unnamed {ps} e p n =
      let nothing = option-map-none (λ (r : ParentRow). r.parent) (find (its s) ps) e in
      eqb-false n.row.supplier s (none_found (its s) nothing n.a-row) n.its-supplier

  pub named : {ps : List ParentRow} {p : ℕ} → Names ps s p → given_twice ps ≡ None → parent_of ps s ≡ Some p
  named {ps} {p} n once = go (parent_of ps s) refl
    where
      go : (o : Option ℕ) → parent_of ps s ≡ o → o ≡ Some p
      go None e = absurd (unnamed e p n)
      go (Some q) e = ap Some (one_parent once (names e) n)

-- the elements that pass a test are fewer than all where one fails
module _ {A : Type 0} (p : A → Bool) where
  those-most : (xs : List A) → length (those p xs) ≤ length xs
  unfolding those
  those-most [] = omega arith
  those-most (x ∷ xs) = go (p x) (those-most xs)
    where
      go : (t : Bool) → length (those p xs) ≤ length xs → length (cond t (x ∷ those p xs) (those p xs)) ≤ suc (length xs)
      go true h = omega arith
      go false h = omega arith

  those-fewer : {x : A} {xs : List A} → Among x xs → p x ≡ false → length (those p xs) < length xs
  those-fewer (here {x = y} {xs = ys} e) f = rw (those-later p y ys (ap p (sym e) ∙ f)) (omega (arith, those-most ys))
  those-fewer (later {x = y} {xs = ys} m) f = go (either (p y)) (those-fewer m f)
    where
      go : (p y ≡ true) ⊎ (p y ≡ false) → length (those p ys) < length ys → length (those p (y ∷ ys)) < suc (length ys)
      go (inl t) h = rw (those-here p y ys t) (omega arith)
      go (inr t) h = rw (those-later p y ys t) (omega arith)

-- A chain that comes back uses each record once, so it comes back with no more steps than there are records. To see that,
-- take out the records of each supplier that the chain has passed.
abbrev is_other : ℕ → ParentRow → Bool
is_other x r = not (eqb r.supplier x)

abbrev others : ℕ → List ParentRow → List ParentRow
others x ps = those (is_other x) ps

module _ (x : ℕ) (ps : List ParentRow) where
  others-fewer : {p : ℕ} → Names ps x p → length (others x ps) < length ps
  others-fewer n = those-fewer (is_other x) n.a-row (rw (eq-eqb n.row.supplier x n.its-supplier))

  to-others : {s p : ℕ} → (s ≡ x → ⊥) → Names ps s p → Names (others x ps) s p
  to-others {s} d n =
      record {
        row = n.row;
        a-row = mem-those (is_other x) n.a-row (rw (n.its-supplier, ne_eqb s x d));
        its-supplier = n.its-supplier;
        its-parent = n.its-parent;
      }

  from-others : {s p : ℕ} → Names (others x ps) s p → Names ps s p
  from-others n =
      record {
        row = n.row;
        a-row = (those-mem (is_other x) ps n.a-row).0;
        its-supplier = n.its-supplier;
        its-parent = n.its-parent;
      }

  -- a chain from the last time that it is at x
  last-visit : {y s : ℕ} → Leads ps y s → Leads (others x ps) y s ⊎ ((p : ℕ) × Names ps x p × Leads (others x ps) p s)
  last-visit there = inl there
  last-visit {s} (step {s = y} {p = p} n l) = go (last-visit l) (eq-or-ne y x)
    where
      go :
          Leads (others x ps) p s ⊎ ((p : ℕ) × Names ps x p × Leads (others x ps) p s) → (y ≡ x) ⊎ (y ≡ x → ⊥) →
          Leads (others x ps) y s ⊎ ((p : ℕ) × Names ps x p × Leads (others x ps) p s)
      go (inr v) e = inr v
      go (inl m) (inl e) = inr (p, rw e at n, m)
      go (inl m) (inr d) = inl (step (to-others d n) m)

first_step : {ps : List ParentRow} {s h : ℕ} → Leads ps s h → (s ≡ h) ⊎ ((p : ℕ) × Names ps s p × Leads ps p h)
first_step there = inl refl
first_step (step {p = p} n l) = inr (p, n, l)

module _ (ps : List ParentRow) (once : given_twice ps ≡ None) where
  abbrev PartOf : List ParentRow → Type 0
  PartOf qs = (s p : ℕ) → Names qs s p → Names ps s p

  -- a chain from the parent of x leads on through records of others
  leaves : (qs : List ParentRow) → PartOf qs → {x p s : ℕ} → Names qs x p → Leads qs p s → Leads (others x qs) p s
  leaves qs part {x} {p} {s} n l = go (last-visit x qs l)
    where
      go : Leads (others x qs) p s ⊎ ((p : ℕ) × Names qs x p × Leads (others x qs) p s) → Leads (others x qs) p s
      go (inl m) = m
      go (inr (q, k, m)) = rw (one_parent once (part x p n) (part x q k)) m

  -- n steps find a chain through records of which there are no more than n
  leads-back :
      (n : ℕ) (qs : List ParentRow) → length qs ≤ n → PartOf qs → (s x p : ℕ) → Names qs x p → Leads qs p s →
      comes_back (parent_of ps) s n x ≡ true
  unfolding comes_back
  leads-back zero qs h part s x p m l = absurd (omega (arith, others-fewer x qs m))
  leads-back (suc n) qs h part s x p m l =
      rw (named (part x p m) once)
      (go (first_step (leaves qs part m l)) (leads-back n (others x qs) (omega (arith, others-fewer x qs m)) still_part s p))
    where
      still_part : PartOf (others x qs)
      still_part y q k = part y q (from-others x qs k)

      go :
          (p ≡ s) ⊎ ((q : ℕ) × Names (others x qs) p q × Leads (others x qs) q s) →
          ((q : ℕ) → Names (others x qs) p q → Leads (others x qs) q s → comes_back (parent_of ps) s n p ≡ true) →
          (eqb p s || comes_back (parent_of ps) s n p) ≡ true
      go (inl e) more = rw (eq-eqb p s e)
      go (inr (q, k, j)) more = rw (more q k j) (or-true (eqb p s))

  -- and what they find is a chain
  back-leads : (n s x : ℕ) → comes_back (parent_of ps) s n x ≡ true → (p : ℕ) × Names ps x p × Leads ps p s
  unfolding comes_back
  back-leads zero s x e = false-true e
  back-leads (suc n) s x e = go (parent_of ps x) refl e (back-leads n s)
    where
      Back : ℕ → Type 0
      Back x = (p : ℕ) × Names ps x p × Leads ps p s

      arrives :
          (p : ℕ) → (eqb p s || comes_back (parent_of ps) s n p) ≡ true → (comes_back (parent_of ps) s n p ≡ true → Back p) →
          Leads ps p s
      arrives p e more = here-or (eq-or-ne p s)
        where
          here-or : (p ≡ s) ⊎ (p ≡ s → ⊥) → Leads ps p s
          here-or (inl is) = rw is there
          here-or (inr d) =
              let (q, m, l) = more (rw (ne_eqb p s d) at e) in
              step m l

      go :
          (o : Option ℕ) → parent_of ps x ≡ o →
          unwrap_or (option_map (λ (p : ℕ). eqb p s || comes_back (parent_of ps) s n p) o) false ≡ true →
          ((p : ℕ) → comes_back (parent_of ps) s n p ≡ true → Back p) → Back x
      go None f e more = false-true e
      go (Some p) f e more = (p, names f, arrives p e (more p))

  -- 36: a record's own chain comes back just where it is found to
  pub back-exactly : (r : ParentRow) → Among r ps → (returns ps r ≡ true) ↔ ComesBack ps r
  unfolding returns
  back-exactly r m = (found, leads-back (length ps) ps (omega arith) (λ y q k. k) r.supplier r.supplier r.parent its_own)
    where
      its_own : Names ps r.supplier r.parent
      its_own = record { row = r; a-row = m; its-supplier = refl; its-parent = refl }

      found : returns ps r ≡ true → ComesBack ps r
      found e =
          let (p, n, l) = back-leads (length ps) r.supplier r.supplier e in
          rw (one_parent once its_own n) l

among-take : {A : Type 0} {x : A} (i : ℕ) (xs : List A) → Among x (take i xs) → Among x xs
among-take zero xs m = absurd (among_none m)
among-take (suc i) [] m = m
among-take (suc i) (y ∷ ys) m = ⊎_elim (λ e. here e) (λ n. later (among-take i ys n)) (among_cases m)

-- what a search for the first element that passes a test says: no element does, or it is the one at place i, and none before
module _ {A : Type 0} (p : A → Bool) where
  data Searched (k : ℕ) (xs : List A) : Option ℕ → Type 0 where
    nothing : ((y : A) → Among y xs → p y ≡ false) → Searched k xs None
    it :
        (i : ℕ) (x : A) (rest : List A) → drop i xs ≡ x ∷ rest → p x ≡ true → ((y : A) → Among y (take i xs) → p y ≡ false) →
        Searched k xs (Some (k + i))

  searched-more :
      {k : ℕ} {x : A} {xs : List A} {o : Option ℕ} (t : Bool) → p x ≡ t → Searched (suc k) xs o →
      Searched k (x ∷ xs) (cond t (Some k) o)
  searched-more {k} {x} {xs} true e s =
      let at : k + 0 ≡ k = omega arith in
      let f : Searched k (x ∷ xs) (Some (k + 0)) = it 0 x xs refl e (λ y m. absurd (among_none m)) in
      rw at at f
  searched-more false e (nothing h) = nothing (for-cons (λ y. p y ≡ false) e h)
  searched-more {k} {x} {xs} false e (it i y rest d t h) =
      let at : k + suc i ≡ suc k + i = omega arith in
      let f : Searched k (x ∷ xs) (Some (k + suc i)) = it (suc i) y rest d t (for-cons (λ y. p y ≡ false) e h) in
      rw at at f

  searched : (k : ℕ) (xs : List A) → Searched k xs (first p k xs)
  unfolding first
  searched k [] = nothing (λ y m. absurd (among_none m))
  searched k (x ∷ xs) = searched-more (p x) refl (searched (suc k) xs)

-- the record at place k, counted from 0, is the first whose own chain comes back
pub record FirstBack (ps : List ParentRow) (k : ℕ) : Type 0 where
  pub row : ParentRow
  pub rest : List ParentRow
  pub at_place : drop k ps ≡ row ∷ rest
  pub comes-back : ComesBack ps row
  pub none_before : (r : ParentRow) → Among r (take k ps) → ComesBack ps r → ⊥

module _ (ps : List ParentRow) (once : given_twice ps ≡ None) where
  -- the answer to 36
  data Rings : Option ℕ → Type 0 where
    no-ring : ((r : ParentRow) → Among r ps → ComesBack ps r → ⊥) → Rings None
    ring : {k : ℕ} → FirstBack ps k → Rings (Some (suc k))

  not_back : (r : ParentRow) → Among r ps → returns ps r ≡ false → ComesBack ps r → ⊥
  not_back r m f b = false-true (sym f ∙ (back-exactly ps once r m).1 b)

  rings : Rings (ringed ps)
  unfolding ringed
  rings = go (searched (returns ps) 1 ps)
    where
      go : {o : Option ℕ} → Searched (returns ps) 1 ps o → Rings o
      go (nothing h) = no-ring (λ r m. not_back r m (h r m))
      go (it i x rest d t h) =
          let from_one : 1 + i ≡ suc i = omega arith in
          rw from_one
          (ring
          (record {
            row = x;
            rest = rest;
            at_place = d;
            comes-back = (back-exactly ps once x (among-drop i ps (rw d (here refl)))).0 t;
            none_before = λ r m. not_back r (among-take i ps m) (h r m);
          }))

  -- 36 is kept just where no record's own chain comes back
  pub ring-none : (ringed ps ≡ None) ↔ ((r : ParentRow) → Among r ps → ComesBack ps r → ⊥)
  ring-none = go rings
    where
      go : {o : Option ℕ} → Rings o → (o ≡ None) ↔ ((r : ParentRow) → Among r ps → ComesBack ps r → ⊥)
      go (no-ring h) = (λ e. h, λ h. refl)
      go (ring {k = k} f) =
          (λ e. some-none e, λ h. absurd (h f.row (among-drop k ps (rw f.at_place (here refl))) f.comes-back))

  -- and where it isn't, it names the first record whose own chain does
  pub ring-first : (k : ℕ) → ringed ps ≡ Some (suc k) → FirstBack ps k
  ring-first k e = go rings e
    where
      go : {o : Option ℕ} → Rings o → o ≡ Some (suc k) → FirstBack ps k
      go (no-ring h) e = some-none (sym e)
      go (ring {k = j} f) e =
          let same : j ≡ k = cc in
          rw same at f

  -- "the chain is followed to its head": records enough for all the steps are left, as each step's is used once
  reaches :
      ringed ps ≡ None → (n : ℕ) (qs : List ParentRow) → length qs ≤ n → (s : ℕ) →
      ((y p : ℕ) → Leads ps s y → Names ps y p → Names qs y p) → Chain ps s (head_from (parent_of ps) n s)
  unfolding head_from
  reaches none-back zero qs h s left =
      record { leads = there; ends = λ p m. absurd (omega (arith, others-fewer s qs (left s p there m))) }
  reaches none-back (suc n) qs h s left = go (parent_of ps s) refl (reaches none-back n (others s qs))
    where
      no_return : {p : ℕ} → Names ps s p → Leads ps p s → ⊥
      no_return m l = ring-none.0 none-back m.row m.a-row (rw (m.its-supplier, m.its-parent) l)

      still-left : {p : ℕ} → Names ps s p → (y q : ℕ) → Leads ps p y → Names ps y q → Names (others s qs) y q
      still-left m y q l k = to-others s qs (λ is. no_return m (rw is at l)) (left y q (step m l) k)

      go :
          (o : Option ℕ) → parent_of ps s ≡ o →
          (length (others s qs) ≤ n → (p : ℕ) → ((y q : ℕ) → Leads ps p y → Names ps y q → Names (others s qs) y q) →
          Chain ps p (head_from (parent_of ps) n p)) → Chain ps s (unwrap_or (option_map (head_from (parent_of ps) n) o) s)
      go None e more = record { leads = there; ends = unnamed e }
      go (Some p) e more =
          let m : Names ps s p = names e in
          let on = more (omega (arith, others-fewer s qs (left s p there m))) p (still-left m) in
          record { leads = step m on.leads; ends = on.ends }

  -- where 35 and 36 are kept every chain ends, and the head is its end
  pub head-chain : ringed ps ≡ None → (s : ℕ) → Chain ps s (head ps s)
  unfolding head
  head-chain none-back s = reaches none-back (length ps) ps (omega arith) s (λ y p l m. m)

-- and a chain has no other end
pub chain_head : {ps : List ParentRow} → given_twice ps ≡ None → {s h k : ℕ} → Chain ps s h → Chain ps s k → h ≡ k
chain_head {ps} once a b = go a.leads a.ends b.leads b.ends
  where
    go : {s h k : ℕ} → Leads ps s h → ((p : ℕ) → Names ps h p → ⊥) → Leads ps s k → ((p : ℕ) → Names ps k p → ⊥) → h ≡ k
    go there e there f = refl
    go there e (step {p = p} n l) f = absurd (e p n)
    go (step {p = p} n l) e there f = absurd (f p n)
    go (step n l) e (step m j) f = go l e (rw (one_parent once m n) at j) f
