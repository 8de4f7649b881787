-- Laws of heads that are put into the rows of supply, one row a turn, over plain lists. Assumes nothing.
use Rattle.std.specs.Prelude.{None, Option, Some, option_map, unwrap_or}
use Prim.Native.Nat.{ℕ, zero, suc, ◌+◌, ◌*◌, ◌≤◌, ◌<◌}
use mathlib.Core.Path.{◌≡◌, refl, ◌∙◌, ap}
use mathlib.Core.Logic.{⊎_elim}
use mathlib.Core.List.Memᴰ
use mathlib.Core.List.{List, [], ◌∷◌, Memᴰ as Among}
use native.Mathlib.Omega.{arith}
use lib.ListN.{length, get_or, set, drop, replicate, length-set, length-replicate}
use lib.Seq.{get_or-set_same, get_or-set_other}
use Rattle.base.proofs.Lists.{drop-end}
use Rattle.base.proofs.Members.{member-of-rest}
use Rattle.base.proofs.Tests.{eq-or-ne}
use Rattle.tables.specs.Rows.{SupplyRow, ParentRow}
use Rattle.tables.specs.Table.{highest_supplier}
use Rattle.tables.specs.promises.FlatRows.{supply_rows}
use Rattle.cells.specs.promises.Views.{supply_at}
use Rattle.cells.proofs.RowStores.{cell-kept, Changing, changing-none, changing-next, changing-over}
use Rattle.cells.proofs.RowViews.{supply-next, supply-length}
use Rattle.affiliates.specs.Affiliates.{parent_of, head_from, head, in_place, grouped}
use Rattle.affiliates.specs.promises.Laying.{SupplierCells, ParentRun, ParentsIn, HeadsIn, parent_in, headed}
use Rattle.affiliates.proofs.LayingLaws.{cleared}

-- no head is found yet
pub no-heads : (run : List ℕ) (rows n : ℕ) → highest_supplier < n → HeadsIn run rows (replicate n 0)
no-heads run rows n h =
    record {
      places = rw (length-replicate {A = ℕ} n 0) h;
      found = λ s some-head. absurd (some-head (cleared n s));
    }

-- the head that stands at a supplier's place
pub head-known :
    {run : List ℕ} {rows : ℕ} {heads : List ℕ} (s h : ℕ) → HeadsIn run rows heads → h ≡ get_or heads s 0 → (h ≡ 0 → ⊥) →
    h ≡ head_from (parent_in run) rows s
head-known {heads = heads} s h known is some-head = is ∙ known.found s (λ (z : get_or heads s 0 ≡ 0). some-head (is ∙ z))

-- the head of one more supplier is found
heads-more :
    {run : List ℕ} {rows : ℕ} {heads : List ℕ} (s h : ℕ) → HeadsIn run rows heads → s ≤ highest_supplier →
    h ≡ head_from (parent_in run) rows s → HeadsIn run rows (set heads s h)
heads-more {run} {rows} {heads} s h known inside is =
    record { places = rw (length-set heads s h) known.places; found = found-next }
  where
    found-next : (x : ℕ) → (get_or (set heads s h) x 0 ≡ 0 → ⊥) → get_or (set heads s h) x 0 ≡ head_from (parent_in run) rows x
    found-next x some-head = ⊎_elim here other (eq-or-ne x s)
      where
        here : x ≡ s → get_or (set heads s h) x 0 ≡ head_from (parent_in run) rows x
        here e = rw (e, get_or-set_same heads s h 0 (omega (arith, known.places))) is

        other : (x ≡ s → ⊥) → get_or (set heads s h) x 0 ≡ head_from (parent_in run) rows x
        other e =
            let kept : get_or (set heads s h) x 0 ≡ get_or heads x 0 = get_or-set_other heads s x h 0 e in
            kept ∙ known.found x (λ (z : get_or heads x 0 ≡ 0). some-head (kept ∙ z))

-- it is that of x, and r is answered
pub head-found :
    {run : List ℕ} {rows : ℕ} {heads : List ℕ} (s x h r : ℕ) → HeadsIn run rows heads → s ≤ highest_supplier → x ≡ s →
    h ≡ head_from (parent_in run) rows x → r ≡ h → (r ≡ head_from (parent_in run) rows s) × HeadsIn run rows (set heads s h)
head-found {run} {rows} s x h r known inside same is answered =
    let own : h ≡ head_from (parent_in run) rows s = is ∙ rw same in
    (answered ∙ own, heads-more s h known inside own)

-- a store of a supplier: its row, and another
module _ (cells : List ℕ) (i v : ℕ) where
  abbrev stored : List ℕ
  stored = set cells (i * 5 + 1) v

  stored_same : i * 5 + 1 < length cells → (f : ℕ → ℕ) → v ≡ f (supply_at cells i).supplier → supply_at stored i ≡ in_place f (supply_at cells i)
  unfolding in_place
  stored_same h f e =
      rw (
        get_or-set_other cells (i * 5 + 1) (i * 5 + 0) v 0 (omega arith),
        get_or-set_same cells (i * 5 + 1) v 0 h,
        get_or-set_other cells (i * 5 + 1) (i * 5 + 2) v 0 (omega arith),
        get_or-set_other cells (i * 5 + 1) (i * 5 + 3) v 0 (omega arith),
        get_or-set_other cells (i * 5 + 1) (i * 5 + 4) v 0 (omega arith),
        e,
      )

  stored_other : (j : ℕ) → (j ≡ i → ⊥) → supply_at stored j ≡ supply_at cells j
  stored_other j e =
      rw (
        cell-kept 5 cells i 1 v (omega arith) j 0 (omega arith) e,
        cell-kept 5 cells i 1 v (omega arith) j 1 (omega arith) e,
        cell-kept 5 cells i 1 v (omega arith) j 2 (omega arith) e,
        cell-kept 5 cells i 1 v (omega arith) j 3 (omega arith) e,
        cell-kept 5 cells i 1 v (omega arith) j 4 (omega arith) e,
      )

-- of n rows the first i have the heads of their suppliers in their places, and the others are as they were
pub record Grouping (run : List ℕ) (rows : ℕ) (heads₀ heads : List ℕ) (n : ℕ) (old new : List ℕ) (i : ℕ) : Type 0 where
  pub a-run : ParentRun run
  pub heads-in : HeadsIn run rows heads
  pub heads-length : length heads ≡ length heads₀
  pub cells_in : SupplierCells n old
  pub changing : Changing supply_at (λ (j : ℕ). in_place (head_from (parent_in run) rows)) n old new i

module _ (run : List ℕ) (rows : ℕ) (heads₀ : List ℕ) (n : ℕ) (old : List ℕ) where
  pub grouping-none : ParentRun run → HeadsIn run rows heads₀ → SupplierCells n old → Grouping run rows heads₀ heads₀ n old old 0
  grouping-none a k c =
      record { a-run = a; heads-in = k; heads-length = refl; cells_in = c; changing = changing-none _ _ n old }

  module _ (heads new : List ℕ) (i : ℕ) (g : Grouping run rows heads₀ heads n old new i) (h : i < n) where
    pub grouping-ranged : get_or new (i * 5 + 1) 0 ≤ highest_supplier
    grouping-ranged =
        let here : Among (supply_at old i) (drop i (supply_rows n old)) = rw (supply-next n old i h) (Memᴰ.head refl) in
        rw (ap (λ (r : SupplyRow). r.supplier) (g.changing.kept i (omega arith)))
        (g.cells_in.ranged (supply_at old i) (member-of-rest i (supply_rows n old) here))

    -- the head of the row's supplier x is found, and stored
    pub grouping-next :
        (heads' : List ℕ) (x found : ℕ) → HeadsIn run rows heads' → length heads' ≡ length heads → x ≡ get_or new (i * 5 + 1) 0 →
        found ≡ head_from (parent_in run) rows x → Grouping run rows heads₀ heads' n old (set new (i * 5 + 1) found) (i + 1)
    grouping-next heads' x found k l its is =
        record {
          a-run = g.a-run;
          heads-in = k;
          heads-length = l ∙ g.heads-length;
          cells_in = g.cells_in;
          changing =
              changing-next _ _ n old new (set new (i * 5 + 1) found) i g.changing h (length-set new (i * 5 + 1) found)
              (stored_same new i found (omega (arith, g.cells_in.inside, g.changing.same_length)) (head_from (parent_in run) rows) (is ∙ rw its))
              (stored_other new i found);
        }

  pub grouping-over :
      (heads new : List ℕ) (i : ℕ) → Grouping run rows heads₀ heads n old new i → n ≤ i →
      supply_rows n new ≡ headed run rows (supply_rows n old)
  grouping-over heads new i g h =
      changing-over _ _ n old new i g.changing h (supply_rows n new) (supply-length n new) (supply-next n new)
      (λ (j : ℕ). headed run rows (drop j (supply_rows n old)))
      (rw (drop-end n (supply_rows n old) (rw (supply-length n old) (omega arith))))
      (λ (j : ℕ) (f : j < n). rw (supply-next n old j f))

-- chains by the same parents have one head
same_head : (f g : ℕ → Option ℕ) → ((s : ℕ) → f s ≡ g s) → (k s : ℕ) → head_from f k s ≡ head_from g k s
unfolding head_from
same_head f g same zero s = refl
same_head f g same (suc k) s = rw (same s) (go (g s) (λ (p : ℕ). same_head f g same k p))
  where
    go :
        (o : Option ℕ) → ((p : ℕ) → head_from f k p ≡ head_from g k p) →
        unwrap_or (option_map (head_from f k) o) s ≡ unwrap_or (option_map (head_from g k) o) s
    go None below = refl
    go (Some p) below = below p

-- by a run of parents, rows are headed as they are grouped by the rows of parents
module _ (ps : List ParentRow) (run : List ℕ) (laid : ParentsIn ps run) (rows : ℕ) (all : rows ≡ length ps) where
  pub headed-grouped : (rs : List SupplyRow) → headed run rows rs ≡ grouped ps rs
  unfolding grouped in_place head
  headed-grouped [] = refl
  headed-grouped (r ∷ rs) =
      let here : in_place (head_from (parent_in run) rows) r ≡ in_place (head ps) r =
      rw (all, same_head (parent_in run) (parent_of ps) laid.held (length ps) r.supplier) refl in
      ap (λ (s : SupplyRow). s ∷ headed run rows rs) here ∙ ap (λ (s : List SupplyRow). in_place (head ps) r ∷ s) (headed-grouped rs)
