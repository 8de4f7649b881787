-- Laws of one step of a chain along a run of parents, and of the search for a chain that comes back, one row a turn, over plain
-- lists. Assumes nothing.
use Rattle.std.specs.Prelude.{None, Option, Some, option_map, unwrap_or}
use Prim.Native.Nat.{ℕ, zero, suc, ◌+◌, ◌-◌, ◌*◌, ◌≤◌, ◌<◌}
use mathlib.Core.Path.{◌≡◌, refl, sym, ◌∙◌}
use mathlib.Core.Bool.{Bool, true, false, ◌||◌}
use mathlib.Core.List.Memᴰ
use mathlib.Core.List.{List, Memᴰ as Among}
use native.Mathlib.Omega.{arith}
use native.Mathlib.Numerals.{add-one}
use lib.Dec.{eqb}
use lib.ListN.{get_or, drop}
use borrow.Author.Tests.{eq-eqb, ne_eqb}
use Rattle.base.specs.Search.{first}
use Rattle.base.proofs.Lists.{drop-end}
use Rattle.base.proofs.Members.{member-of-rest}
use Rattle.base.proofs.Searches.{first-here, first-later}
use Rattle.tables.specs.Rows.{ParentRow}
use Rattle.tables.specs.Table.{highest_supplier}
use Rattle.tables.specs.promises.FlatRows.{parent_rows}
use Rattle.cells.specs.promises.Views.{parent_at}
use Rattle.cells.proofs.RowViews.{parent-next, parent-length}
use Rattle.affiliates.specs.Affiliates.{parent_of, head_from, comes_back, returns, ringed}
use Rattle.affiliates.specs.promises.Laying.{ParentCells, ParentsIn, parent_in}

module _ (run : List ℕ) where
  pub parent-none : (s : ℕ) → get_or run s 0 ≡ 0 → parent_in run s ≡ None
  unfolding parent_in
  parent-none s e = rw (eq-eqb (get_or run s 0) 0 e)

  pub parent-some : (s : ℕ) → (get_or run s 0 ≡ 0 → ⊥) → parent_in run s ≡ Some (get_or run s 0)
  unfolding parent_in
  parent-some s e = rw (ne_eqb (get_or run s 0) 0 e)

-- no row is left
pub head-over : (f : ℕ → Option ℕ) (s k : ℕ) → k ≡ 0 → s ≡ head_from f k s
unfolding head_from
head-over f s k e = rw e

pub back-over : (f : ℕ → Option ℕ) (x s k : ℕ) → k ≡ 0 → false ≡ comes_back f x k s
unfolding comes_back
back-over f x s k e = rw e

-- one step of a chain from s, where p stands at its place, and k rows are left
module _ (run : List ℕ) (s p k : ℕ) (is : p ≡ get_or run s 0) where
  module _ (some-row : k ≡ 0 → ⊥) where
    one_more : k ≡ suc (k - 1)
    one_more = omega arith

    -- s has no parent
    pub head-ends : p ≡ 0 → s ≡ head_from (parent_in run) k s
    unfolding head_from
    head-ends e = rw (one_more, parent-none run s (sym is ∙ e))

    pub back-ends : (x : ℕ) → p ≡ 0 → false ≡ comes_back (parent_in run) x k s
    unfolding comes_back
    back-ends x e = rw (one_more, parent-none run s (sym is ∙ e))

    -- p is its parent
    module _ (some-parent : p ≡ 0 → ⊥) where
      there : parent_in run s ≡ Some p
      there = parent-some run s (λ (z : get_or run s 0 ≡ 0). some-parent (is ∙ z)) ∙ rw (← is)

      pub head-on : (next : ℕ) → next ≡ k - 1 → {r : ℕ} → r ≡ head_from (parent_in run) next p → r ≡ head_from (parent_in run) k s
      unfolding head_from
      head-on next l e =
          let further : k ≡ suc next = omega arith in
          e ∙ rw (further, there)

      pub back-here : (x : ℕ) → p ≡ x → true ≡ comes_back (parent_in run) x k s
      unfolding comes_back
      back-here x e = rw (one_more, there, eq-eqb p x e)

      pub back_on :
          (x : ℕ) → (p ≡ x → ⊥) → (next : ℕ) → next ≡ k - 1 → {r : Bool} → r ≡ comes_back (parent_in run) x next p →
          r ≡ comes_back (parent_in run) x k s
      unfolding comes_back
      back_on x other next l e =
          let further : k ≡ suc next = omega arith in
          e ∙ rw (further, there, ne_eqb p x other)

-- chains by the same parents come back alike
same_back : (f g : ℕ → Option ℕ) → ((s : ℕ) → f s ≡ g s) → (s k x : ℕ) → comes_back f s k x ≡ comes_back g s k x
unfolding comes_back
same_back f g same s zero x = refl
same_back f g same s (suc k) x = rw (same x) (go (g x) (λ (p : ℕ). same_back f g same s k p))
  where
    go :
        (o : Option ℕ) → ((p : ℕ) → comes_back f s k p ≡ comes_back g s k p) →
        unwrap_or (option_map (λ (p : ℕ). eqb p s || comes_back f s k p) o) false
        ≡ unwrap_or (option_map (λ (p : ℕ). eqb p s || comes_back g s k p) o) false
    go None below = refl
    go (Some p) below = rw (below p)

-- a row is among all
pub parent-among : (n : ℕ) (cells : List ℕ) (i : ℕ) → i < n → Among (parent_at cells i) (parent_rows n cells)
parent-among n cells i h =
    let here : Among (parent_at cells i) (drop i (parent_rows n cells)) = rw (parent-next n cells i h) (Memᴰ.head refl) in
    member-of-rest i (parent_rows n cells) here

-- of n rows the chains of the first i don't come back
pub record Searching (cells : List ℕ) (n : ℕ) (run : List ℕ) (i : ℕ) : Type 0 where
  pub upto : i ≤ n
  pub cells_in : ParentCells n cells
  pub parents-in : ParentsIn (parent_rows n cells) run
  pub rest : ringed (parent_rows n cells) ≡ first (returns (parent_rows n cells)) (suc i) (drop i (parent_rows n cells))

module _ (cells : List ℕ) (n : ℕ) (run : List ℕ) where
  pub searching-none : ParentCells n cells → ParentsIn (parent_rows n cells) run → Searching cells n run 0
  unfolding ringed
  searching-none c p = record { upto = omega arith; cells_in = c; parents-in = p; rest = refl }

  module _ (i : ℕ) (s : Searching cells n run i) (h : i < n) where
    pub searching-ranged : get_or cells (i * 2 + 0) 0 ≤ highest_supplier
    searching-ranged = (s.cells_in.permitted (parent_at cells i) (parent-among n cells i h)).supplier

    abbrev behind : List ParentRow
    behind = drop (i + 1) (parent_rows n cells)

    module _ (t : Bool) (x : ℕ) (is : t ≡ comes_back (parent_in run) x n x) (its : x ≡ get_or cells (i * 2 + 0) 0) where
      its_own : returns (parent_rows n cells) (parent_at cells i) ≡ t
      unfolding returns
      its_own =
          rw (parent-length n cells, ← its, is)
          (sym (same_back (parent_in run) (parent_of (parent_rows n cells)) s.parents-in.held x n x))

      pub searching-here : t ≡ true → Some (i + 1) ≡ ringed (parent_rows n cells)
      searching-here e =
          rw (
            s.rest,
            parent-next n cells i h,
            first-here (returns (parent_rows n cells)) (suc i) (parent_at cells i) behind (its_own ∙ e),
            add-one i,
          )

      pub searching-next : t ≡ false → Searching cells n run (i + 1)
      searching-next e =
          record {
            upto = omega arith;
            cells_in = s.cells_in;
            parents-in = s.parents-in;
            rest =
                s.rest ∙ rw (parent-next n cells i h)
                (first-later (returns (parent_rows n cells)) (suc i) (parent_at cells i) behind (its_own ∙ e)
                ∙ rw (add-one i));
          }

  pub searching-over : (i : ℕ) → Searching cells n run i → n ≤ i → None ≡ ringed (parent_rows n cells)
  unfolding first
  searching-over i s h = rw (s.rest, drop-end i (parent_rows n cells) (rw (parent-length n cells) h))
