-- Laws of parents that are laid down in a run, one row a turn, over plain lists. Assumes nothing.
use Rattle.std.specs.Prelude.{None, Option, Some}
use Prim.Native.Nat.{ℕ, zero, suc, ◌+◌, ◌*◌, ◌≤◌, ◌<◌}
use mathlib.Core.Path.{◌≡◌, refl, sym, ◌∙◌}
use mathlib.Core.Logic.{⊎_elim}
use mathlib.Core.Bool.{Bool, true, false, not}
use mathlib.Core.List.{List, [], ◌∷◌}
use native.Mathlib.Omega.{arith}
use native.Mathlib.Numerals.{add-one}
use lib.Dec.{eqb}
use lib.ListN.{length, get_or, set, drop, replicate, length-set}
use lib.Seq.{get_or-set_same, get_or-set_other}
use borrow.Author.Tests.{eq-eqb, ne_eqb}
use Rattle.base.specs.Search.{any, find, first_at_odds}
use Rattle.base.proofs.Lists.{drop-end}
use Rattle.base.proofs.Tests.{eq-or-ne}
use Rattle.tables.specs.Rows.{ParentRow}
use Rattle.tables.specs.Table.{highest_supplier}
use Rattle.tables.specs.promises.Ranges.{PermittedParent}
use Rattle.tables.specs.promises.FlatRows.{parent_rows}
use Rattle.cells.specs.promises.Views.{parent_at}
use Rattle.cells.proofs.RowViews.{parent-next, parent-length}
use Rattle.affiliates.specs.Affiliates.{parent_of, same_supplier, given_twice}
use Rattle.affiliates.specs.promises.Laying.{ParentCells, Cleared, ParentsLaid, parent_in}
use Rattle.affiliates.proofs.WalkLaws.{parent-none, parent-some, parent-among}

-- what is there, or else another
unfoldable or_else : Option ℕ → Option ℕ → Option ℕ
or_else None o = o
or_else (Some p) o = Some p

or-none : (o : Option ℕ) → or_else o None ≡ o
unfolding or_else
or-none None = refl
or-none (Some p) = refl

some-none : {A : Type 0} {k : ℕ} → Some k ≡ None → A
some-none e = let z : ◌≡◌ {A = ℕ} 0 1 = cc in absurd (omega arith)

-- a run of zeros has no parent
pub cleared : (n : ℕ) → Cleared (replicate n 0)
cleared zero s = refl
cleared (suc n) zero = refl
cleared (suc n) (suc s) = cleared n s

module _ (r : ParentRow) (rs : List ParentRow) (s : ℕ) where
  own-parent : s ≡ r.supplier → parent_of (r ∷ rs) s ≡ Some r.parent
  unfolding parent_of find
  own-parent e = rw (eq-eqb r.supplier s (sym e))

  other-parent : (s ≡ r.supplier → ⊥) → parent_of (r ∷ rs) s ≡ parent_of rs s
  unfolding parent_of find
  other-parent e = rw (ne_eqb r.supplier s (λ (f : r.supplier ≡ s). e (sym f)))

-- of n rows the parents of the first i are laid down, and none was given twice. `seen` are these rows, the last first
pub record Laying (cells : List ℕ) (n : ℕ) (old run : List ℕ) (i : ℕ) : Type 0 where
  pub upto : i ≤ n
  pub cells_in : ParentCells n cells
  pub places : highest_supplier < length run
  pub same_length : length run ≡ length old
  pub ranged : (s : ℕ) → get_or run s 0 ≤ highest_supplier
  held : (s : ℕ) → parent_of (parent_rows n cells) s ≡ or_else (parent_in run s) (parent_of (drop i (parent_rows n cells)) s)
  seen : List ParentRow
  has : (r : ParentRow) → any (same_supplier r) seen ≡ not (eqb (get_or run r.supplier 0) 0)
  rest : given_twice (parent_rows n cells) ≡ first_at_odds same_supplier seen (suc i) (drop i (parent_rows n cells))

module _ (cells : List ℕ) (n : ℕ) (old : List ℕ) where
  pub laying-none : ParentCells n cells → highest_supplier < length old → Cleared old → Laying cells n old old 0
  unfolding given_twice any or_else
  laying-none c room none_yet =
      record {
        upto = omega arith;
        cells_in = c;
        places = room;
        same_length = refl;
        ranged = λ (s : ℕ). rw (none_yet s) (omega arith);
        held = λ (s : ℕ). rw (parent-none old s (none_yet s));
        seen = [];
        has = λ (r : ParentRow). rw (none_yet r.supplier);
        rest = refl;
      }

  module _ (run : List ℕ) (i : ℕ) (l : Laying cells n old run i) (h : i < n) where
    row : drop i (parent_rows n cells) ≡ parent_at cells i ∷ drop (i + 1) (parent_rows n cells)
    row = parent-next n cells i h

    pub laying-permitted : PermittedParent (parent_at cells i)
    laying-permitted = l.cells_in.permitted (parent_at cells i) (parent-among n cells i h)

    -- r stands at the place of the row's supplier, x
    module _ (x r : ℕ) (is : x ≡ get_or cells (i * 2 + 0) 0) (stood : r ≡ get_or run x 0) where
      abbrev odds : Bool
      odds = any (same_supplier (parent_at cells i)) l.seen

      stands : odds ≡ not (eqb r 0)
      stands = l.has (parent_at cells i) ∙ rw (← is, ← stood)

      -- it has a parent already
      pub laying-here : (r ≡ 0 → ⊥) → ParentsLaid (parent_rows n cells) run (Some (i + 1))
      unfolding first_at_odds
      laying-here e =
          let odd : odds ≡ true = stands ∙ rw (ne_eqb r 0 e) in
          let twice : given_twice (parent_rows n cells) ≡ Some (suc i) = l.rest ∙ rw (row, odd) in
          record {
            place = rw (twice, add-one i);
            all-parents = λ f. some-none (sym twice ∙ f);
          }

      -- it has none, and gets the row's
      module _ (v : ℕ) (own : v ≡ get_or cells (i * 2 + 1) 0) (free : r ≡ 0) where
        some-parent : v ≡ 0 → ⊥
        some-parent e = omega (arith, laying-permitted.some-parent)

        inside : x < length run
        inside = omega (arith, l.places, laying-permitted.supplier)

        same : get_or (set run x v) x 0 ≡ v
        same = get_or-set_same run x v 0 inside

        given : parent_in (set run x v) x ≡ Some v
        given = parent-some (set run x v) x (λ (z : get_or (set run x v) x 0 ≡ 0). some-parent (sym same ∙ z)) ∙ rw same

        parent-kept : (s : ℕ) → (s ≡ x → ⊥) → parent_in (set run x v) s ≡ parent_in run s
        unfolding parent_in
        parent-kept s e = rw (get_or-set_other run x s v 0 e)

        held_next :
            (s : ℕ) →
            parent_of (parent_rows n cells) s ≡ or_else (parent_in (set run x v) s) (parent_of (drop (i + 1) (parent_rows n cells)) s)
        unfolding or_else
        held_next s = l.held s ∙ rw row (⊎_elim here other (eq-or-ne s x))
          where
            Goal : Type 0
            Goal =
                or_else (parent_in run s) (parent_of (parent_at cells i ∷ drop (i + 1) (parent_rows n cells)) s)
                ≡ or_else (parent_in (set run x v) s) (parent_of (drop (i + 1) (parent_rows n cells)) s)

            here : s ≡ x → Goal
            here e =
                rw (
                  e,
                  parent-none run x (sym stood ∙ free),
                  own-parent (parent_at cells i) (drop (i + 1) (parent_rows n cells)) x is,
                  given,
                  own,
                )

            other : (s ≡ x → ⊥) → Goal
            other e =
                rw (
                  other-parent (parent_at cells i) (drop (i + 1) (parent_rows n cells)) s (λ f. e (f ∙ sym is)),
                  parent-kept s e,
                )

        abbrev Has-next : ParentRow → Type 0
        Has-next e =
            any (same_supplier e) (parent_at cells i ∷ l.seen) ≡ not (eqb (get_or (set run x v) e.supplier 0) 0)

        has-next : (r : ParentRow) → Has-next r
        unfolding any same_supplier
        has-next r = ⊎_elim here other (eq-or-ne r.supplier x)
          where
            here : r.supplier ≡ x → Has-next r
            here e = rw (e, same, ne_eqb v 0 some-parent, eq-eqb x (get_or cells (i * 2 + 0) 0) is)

            other : (r.supplier ≡ x → ⊥) → Has-next r
            other e =
                rw (
                  get_or-set_other run x r.supplier v 0 e,
                  ne_eqb r.supplier (get_or cells (i * 2 + 0) 0) (λ (f : r.supplier ≡ get_or cells (i * 2 + 0) 0). e (f ∙ sym is)),
                )
                (l.has r)

        ranged-next : (s : ℕ) → get_or (set run x v) s 0 ≤ highest_supplier
        ranged-next s = ⊎_elim here other (eq-or-ne s x)
          where
            here : s ≡ x → get_or (set run x v) s 0 ≤ highest_supplier
            here e = rw (e, same, own) laying-permitted.parent

            other : (s ≡ x → ⊥) → get_or (set run x v) s 0 ≤ highest_supplier
            other e = rw (get_or-set_other run x s v 0 e) (l.ranged s)

        pub laying-next : Laying cells n old (set run x v) (i + 1)
        unfolding first_at_odds
        laying-next =
            let free-yet : odds ≡ false = stands ∙ rw (eq-eqb r 0 free) in
            record {
              upto = omega arith;
              cells_in = l.cells_in;
              places = rw (length-set run x v) l.places;
              same_length = length-set run x v ∙ l.same_length;
              ranged = ranged-next;
              held = held_next;
              seen = parent_at cells i ∷ l.seen;
              has = has-next;
              rest = l.rest ∙ rw (row, free-yet, add-one i);
            }

  pub laying-over : (run : List ℕ) (i : ℕ) → Laying cells n old run i → n ≤ i → ParentsLaid (parent_rows n cells) run None
  unfolding parent_of find first_at_odds
  laying-over run i l h =
      record {
        place = rw (l.rest, none_left);
        all-parents = λ _.
            record {
              a-run = record { places = l.places; ranged = l.ranged };
              held = λ (s : ℕ). sym (l.held s ∙ rw none_left (or-none (parent_in run s)));
            };
      }
    where
      none_left : drop i (parent_rows n cells) ≡ []
      none_left = drop-end i (parent_rows n cells) (rw (parent-length n cells) h)
