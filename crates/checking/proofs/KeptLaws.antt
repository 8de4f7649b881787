-- That the check accepts only files of which all of `Kept` holds. Assumes nothing.
use Rattle.std.specs.Prelude.{None, Option, Some}
use Prim.Native.Nat.{ℕ, suc, ◌≤◌}
use mathlib.Core.Path.{◌≡◌, refl}
use mathlib.Core.Bool.{Bool, true, false, cond}
use mathlib.Core.List.{List, [], ◌∷◌, map}
use native.Mathlib.Omega.{arith}
use lib.ListN.{length, get_or}
use borrow.Author.Tests.{ltb-false}
use lib.Dec.{ltb}
use Rattle.base.specs.Rising.{inserted}
use Rattle.base.specs.Search.{All, all_none, all_more}
use Rattle.base.proofs.Searches.{first-of-none, option-map-none}
use Rattle.base.proofs.Tests.{or_fst, or_snd}
use Rattle.tables.specs.promises.Ranges.{PermittedCells, PermittedConstraint, PermittedSupply, PermittedSchedule, PermittedPoint, PermittedParent}
use Rattle.tables.specs.Reading.{refusal}
use Rattle.tables.specs.Rows.{SupplyRow, constraint_row, supply_row, schedule_row, point_row, parent_row}
use Rattle.tables.specs.Table.{table, constraint_columns}
use Rattle.tables.specs.declared.files.File.{File}
use Rattle.tables.specs.declared.files.File.TheVariants.{Constraint, Supply, Schedules, Curves, Parents}
use Rattle.tables.proofs.Accepted.{accepted}
use Rattle.tables.specs.Refusals.{refused}
use Rattle.tables.proofs.Permitted as Permitted
use Rattle.checking.specs.Files.{Files, rows_as_cells, constraint_of, supply_of, schedules_of, or_header, curves_of, parents_of, point_refusals, affiliate_refusals, alone_refusals, market_refusals, schedules_refusals, curves_refusals, units_refusals, beside_refusals, check_refusals, check_refusal}
use Rattle.checking.specs.promises.Kept.{Kept}
use Rattle.affiliates.specs.Affiliates.{given_twice, ringed}
use Rattle.curves.specs.Curves.{stray_point, disordered, ends_low}
use Rattle.numbers.specs.Numbers.{numbers_from, numbers_of}
use Rattle.schedules.specs.Schedules.{schedules_at_odds, not_in_supply, unscheduled}
use Rattle.schedules.specs.Runs.{lacking}
use Rattle.supply.specs.Supply.{most_units, most_suppliers, units, suppliers, over_limit, over_limit_from, supply_at_odds}
use Rattle.supply.specs.promises.Rows.{too_many}
use Rattle.checking.proofs.FilesLaws.{rows-count, supply-count, schedules-count}

-- rows within the ranges
all-mapped :
    {A B : Type 0} {P : A → Type 0} {Q : B → Type 0} (f : A → B) {xs : List A} → ((x : A) → P x → Q (f x)) → All P xs →
    All Q (map f xs)
all-mapped f g all_none = all_none
all-mapped f g (all_more {x = x} p a) = all_more (g x p) (all-mapped f g a)

permitted : (f : File) (s : List ℕ) → refusal f s ≡ None → All (PermittedCells (table f).columns) (rows_as_cells f s)
unfolding rows_as_cells
permitted f s e = (accepted f s e).permitted

pub constraint-kept : (c : List ℕ) → refusal Constraint c ≡ None → PermittedConstraint (constraint_of c)
unfolding constraint_of rows_as_cells
constraint-kept c e = go (rows_as_cells Constraint c) (permitted Constraint c e) (rw (rows-count Constraint c) (accepted Constraint c e).fewest)
  where
    go : (xs : List (List ℕ)) → All (PermittedCells constraint_columns) xs → 1 ≤ length xs → PermittedConstraint (constraint_row (get_or xs 0 []))
    go [] a h = absurd (omega arith)
    go (x ∷ xs) (all_more p a) h = Permitted.constraint-permitted p

pub supply-kept : (s : List ℕ) → refusal Supply s ≡ None → All PermittedSupply (supply_of s)
unfolding supply_of
supply-kept s e = all-mapped supply_row (λ (x : List ℕ) p. Permitted.supply-permitted p) (permitted Supply s e)

pub schedules-kept : (h : List ℕ) → refusal Schedules h ≡ None → All PermittedSchedule (schedules_of h)
unfolding schedules_of
schedules-kept h e = all-mapped schedule_row (λ (x : List ℕ) p. Permitted.schedule-permitted p) (permitted Schedules h e)

pub curves-kept : (k : List ℕ) → refusal Curves (or_header Curves k) ≡ None → All PermittedPoint (curves_of k)
unfolding curves_of
curves-kept k e = all-mapped point_row (λ (x : List ℕ) q. Permitted.point-permitted q) (permitted Curves (or_header Curves k) e)

pub parents-kept : (p : List ℕ) → refusal Parents (or_header Parents p) ≡ None → All PermittedParent (parents_of p)
unfolding parents_of
parents-kept p e = all-mapped parent_row (λ (x : List ℕ) q. Permitted.parent-permitted q) (permitted Parents (or_header Parents p) e)

-- units and suppliers that over-limit no file
record Few (us ss : List ℕ) : Type 0 where
  few-units : length us ≤ most_units
  few-suppliers : length ss ≤ most_suppliers

few-from :
    (us ss : List ℕ) (k : ℕ) (rs : List SupplyRow) → Few us ss → over_limit_from us ss k rs ≡ None →
    Few (numbers_from (λ (r : SupplyRow). r.unit) us rs) (numbers_from (λ (r : SupplyRow). r.supplier) ss rs)
unfolding over_limit_from numbers_from too_many
few-from us ss k [] f e = f
few-from us ss k (r ∷ rs) f e =
    go (too_many (length us') (length ss')) refl (λ (g : Few us' ss') (d : more ≡ None). few-from us' ss' (suc k) rs g d) e
  where
    us' : List ℕ
    us' = inserted r.unit us

    ss' : List ℕ
    ss' = inserted r.supplier ss

    more : Option ℕ
    more = over_limit_from us' ss' (suc k) rs

    Later : Type 0
    Later = Few (numbers_from (λ (q : SupplyRow). q.unit) us' rs) (numbers_from (λ (q : SupplyRow). q.supplier) ss' rs)

    go : (t : Bool) → too_many (length us') (length ss') ≡ t → (Few us' ss' → more ≡ None → Later) → cond t (Some k) more ≡ None → Later
    go true q later d = let z : ◌≡◌ {A = ℕ} 0 1 = cc in absurd (omega arith)
    go false q later d =
        later
        (record {
          few-units = ltb-false _ _ (or_fst (ltb most_units (length us')) (ltb most_suppliers (length ss')) q);
          few-suppliers = ltb-false _ _ (or_snd (ltb most_units (length us')) (ltb most_suppliers (length ss')) q);
        })
        d

few : (rs : List SupplyRow) → over_limit rs ≡ None → Few (units rs) (suppliers rs)
unfolding over_limit units suppliers numbers_of
few rs e = few-from [] [] 1 rs (record { few-units = omega arith; few-suppliers = omega arith }) e

pub units-few : (rs : List SupplyRow) → over_limit rs ≡ None → length (units rs) ≤ most_units
units-few rs e = (few rs e).few-units

pub suppliers-few : (rs : List SupplyRow) → over_limit rs ≡ None → length (suppliers rs) ≤ most_suppliers
suppliers-few rs e = (few rs e).few-suppliers

pub kept : (f : Files) → check_refusal f ≡ None → Kept f
unfolding point_refusals affiliate_refusals alone_refusals market_refusals schedules_refusals curves_refusals units_refusals beside_refusals check_refusals check_refusal
kept f e =
    let c = f.constraint in
    let s = f.supply in
    let h = f.schedules in
    let us = units (supply_of s) in
    let rs = schedules_of h in
    let a = first-of-none (refusal Constraint c) _ e in
    let b = first-of-none (refusal Supply s) _ a.1 in
    let o5 = first-of-none _ _ b.1 in
    let o6 = first-of-none _ _ o5.1 in
    let d = first-of-none (refusal Schedules h) _ o6.1 in
    let p6 = first-of-none _ _ d.1 in
    let p7 = first-of-none _ _ p6.1 in
    let k = first-of-none (refusal Curves (or_header Curves f.curves)) _ p7.1 in
    let k32 = first-of-none _ _ k.1 in
    let k33 = first-of-none _ _ k32.1 in
    let k34 = first-of-none _ _ k33.1 in
    let g = first-of-none (refusal Parents (or_header Parents f.parents)) _ k34.1 in
    let g35 = first-of-none _ _ g.1 in
    let g36 = first-of-none _ _ g35.1 in
    let p8 = first-of-none _ _ g36.1 in
    let p9 = first-of-none _ [] p8.1 in
    let within-limits = option-map-none (refused 5 Supply) (over_limit (supply_of s)) o5.0 in
    record {
      constraint-read = a.0;
      supply-read = b.0;
      schedules-read = d.0;
      curves-read = k.0;
      parents-read = g.0;
      constraint-permitted = constraint-kept c a.0;
      supply-permitted = supply-kept s b.0;
      schedules-permitted = schedules-kept h d.0;
      curves-permitted = curves-kept f.curves k.0;
      parents-permitted = parents-kept f.parents g.0;
      supply-few = rw (supply-count s) (accepted Supply s b.0).most;
      schedules-few = rw (schedules-count h) (accepted Schedules h d.0).most;
      within-limits = within-limits;
      units-few = units-few (supply_of s) within-limits;
      suppliers-few = suppliers-few (supply_of s) within-limits;
      supply-agrees = option-map-none (refused 6 Supply) (supply_at_odds (supply_of s)) o6.0;
      schedules-agree = option-map-none (refused 6 Schedules) (schedules_at_odds rs) p6.0;
      known = option-map-none (refused 7 Schedules) (not_in_supply us rs) p7.0;
      points-placed = option-map-none (refused 32 Curves) (stray_point rs (curves_of f.curves)) k32.0;
      points-ordered = option-map-none (refused 33 Curves) (disordered (curves_of f.curves)) k33.0;
      curves-reach = option-map-none (refused 34 Curves) (ends_low rs (curves_of f.curves)) k34.0;
      given-once = option-map-none (refused 35 Parents) (given_twice (parents_of f.parents)) g35.0;
      unringed = option-map-none (refused 36 Parents) (ringed (parents_of f.parents)) g36.0;
      scheduled = option-map-none (refused 8 Schedules) (unscheduled us rs) p8.0;
      whole = option-map-none (refused 9 Schedules) (lacking (constraint_of c).hour us rs) p9.0;
    }
