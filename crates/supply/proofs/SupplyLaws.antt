-- Laws of what supply rows must be to each other, row by row, over plain lists. Assumes nothing.
use Rattle.std.specs.Prelude.{None, Option, Some}
use Prim.Native.Nat.{ℕ, zero, suc, ◌+◌, ◌-◌, ◌*◌, ◌≤◌, ◌<◌}
use mathlib.Core.Path.{◌≡◌, refl, sym, ◌∙◌, ap}
use mathlib.Core.Logic.{⊎_elim}
use mathlib.Core.Bool.{Bool, true, false, cond, not, ◌||◌, or-false, or_comm}
use mathlib.Core.List.{List, [], ◌∷◌, ◌++◌}
use native.Mathlib.Omega.{arith}
use native.Mathlib.Numerals.{add-one}
use Rattle.std.proofs.Math.Nat.{add-zero, zero-add, suc-add, add-suc}
use Rattle.std.specs.List.{list_any, range_with_len}
use Rattle.std.proofs.lemmas.List.Folds.{list_any-append}
use lib.Dec.{eqb, ltb}
use lib.ListN.{length, get_or, take, drop, set, length-set}
use lib.Seq.{take-append_seam, length-take-le, get_or-set_same, get_or-set_other}
use borrow.Author.Tests.{ltb-false, lt-ltb, le-ltb, eq-eqb, ne_eqb, eqb-true, not-false}
use Rattle.base.specs.Rising.{inserted}
use Rattle.base.specs.Search.{any, first_at_odds}
use Rattle.base.specs.promises.Writing.{Wrote}
use Rattle.base.proofs.Lists.{drop-end}
use Rattle.base.proofs.Elements.{any_same}
use Rattle.base.proofs.Tests.{either, eq-or-ne, and-fst, and-snd, or_fst, or_snd}
use Rattle.numbers.specs.Numbers.{numbers_from, numbers_of}
use Rattle.tables.specs.Rows.{SupplyRow}
use Rattle.tables.specs.promises.FlatRows.{supply_rows}
use Rattle.cells.proofs.RowViews.{supply-next, supply-length}
use Rattle.supply.specs.Supply.{units, suppliers, most_units, most_suppliers, over_limit, over_limit_from, supply_odds, supply_at_odds}
use Rattle.links.specs.promises.Links.{last_same, Unlinked, any_before, unit_keys}
use Rattle.cells.specs.promises.Views.{supply_at}
use Rattle.supply.specs.promises.Rows.{Counted, too_many, supply_before, AgreeBefore, supply_key}
use Rattle.links.proofs.LinkLaws.{last-here, last-later, last-upto, last-any, any_last}

-- a run in which different numbers are laid down, `count` so far
pub record Growing (most : ℕ) (old now : List ℕ) (count : ℕ) : Type 0 where
  pub few : count ≤ most
  pub room : most < length now
  pub same_length : length now ≡ length old

-- what was written stands in front
front : {text old new : List ℕ} {count : ℕ} → Wrote text count old new → take count new ≡ text
front {text} {old} w = rw (w.counted, w.written) (take-append_seam text (drop (length text) old))

some-none : {A : Type 0} {k : ℕ} → Some k ≡ None → A
some-none e = let z : ◌≡◌ {A = ℕ} 0 1 = cc in absurd (omega arith)

-- n rows, of which k are counted: their units and suppliers are laid down, and none was too many
pub record Counting (cells : List ℕ) (n : ℕ) (us₀ ss₀ us ss : List ℕ) (uc sc k : ℕ) : Type 0 where
  pub upto : k ≤ n
  pub cells-room : n * 5 ≤ length cells
  pub units-run : Growing most_units us₀ us uc
  pub suppliers-run : Growing most_suppliers ss₀ ss sc
  pub place : over_limit (supply_rows n cells) ≡ over_limit_from (take uc us) (take sc ss) (suc k) (drop k (supply_rows n cells))
  pub all-units : units (supply_rows n cells) ≡ numbers_from (λ (r : SupplyRow). r.unit) (take uc us) (drop k (supply_rows n cells))
  pub all-suppliers : suppliers (supply_rows n cells) ≡ numbers_from (λ (r : SupplyRow). r.supplier) (take sc ss) (drop k (supply_rows n cells))

module _ (cells : List ℕ) (n : ℕ) (us₀ ss₀ : List ℕ) where
  pub counting-none :
      n * 5 ≤ length cells → most_units < length us₀ → most_suppliers < length ss₀ → Counting cells n us₀ ss₀ us₀ ss₀ 0 0 0
  unfolding over_limit units suppliers numbers_of
  counting-none h u s =
      record {
        upto = omega arith;
        cells-room = h;
        units-run = record { few = omega arith; room = u; same_length = refl };
        suppliers-run = record { few = omega arith; room = s; same_length = refl };
        place = refl;
        all-units = refl;
        all-suppliers = refl;
      }

  module _
      (us ss us' ss' : List ℕ) (uc sc uc' sc' k : ℕ) (so_far : Counting cells n us₀ ss₀ us ss uc sc k) (inside : k < n)
      (unit-in : Wrote (inserted (get_or cells (k * 5 + 0) 0) (take uc us)) uc' us us')
      (supplier-in : Wrote (inserted (get_or cells (k * 5 + 1) 0) (take sc ss)) sc' ss ss')
    where
      row : drop k (supply_rows n cells) ≡ supply_at cells k ∷ drop (k + 1) (supply_rows n cells)
      row = supply-next n cells k inside

      abbrev more : Option ℕ
      more = over_limit_from (take uc' us') (take sc' ss') (suc (k + 1)) (drop (k + 1) (supply_rows n cells))

      place-next : over_limit (supply_rows n cells) ≡ cond (too_many uc' sc') (Some (suc k)) more
      unfolding over_limit_from too_many
      place-next =
          so_far.place ∙ rw (row, front unit-in, front supplier-in, unit-in.counted, supplier-in.counted, add-one k)

      -- the row brings neither a unit nor a supplier too many
      pub counting-next :
          length us' ≡ length us → length ss' ≡ length ss → too_many uc' sc' ≡ false →
          Counting cells n us₀ ss₀ us' ss' uc' sc' (k + 1)
      unfolding too_many numbers_from
      counting-next u s t =
          let units-few = ltb-false most_units uc' (or_fst (ltb most_units uc') (ltb most_suppliers sc') t) in
          let suppliers-few = ltb-false most_suppliers sc' (or_snd (ltb most_units uc') (ltb most_suppliers sc') t) in
          record {
            upto = omega arith;
            cells-room = so_far.cells-room;
            units-run =
                record {
                  few = units-few;
                  room = rw u so_far.units-run.room;
                  same_length = u ∙ so_far.units-run.same_length;
                };
            suppliers-run =
                record {
                  few = suppliers-few;
                  room = rw s so_far.suppliers-run.room;
                  same_length = s ∙ so_far.suppliers-run.same_length;
                };
            place = place-next ∙ rw t;
            all-units = so_far.all-units ∙ rw (row, front unit-in);
            all-suppliers = so_far.all-suppliers ∙ rw (row, front supplier-in);
          }

      pub counting-here :
          too_many uc' sc' ≡ true →
          Counted (supply_rows n cells) us' ss' (record { place = Some (k + 1); units = uc'; suppliers = sc' })
      counting-here t =
          let here : over_limit (supply_rows n cells) ≡ Some (suc k) = place-next ∙ rw t in
          record {
            place = rw (here, add-one k);
            all-units = λ e. some-none (sym here ∙ e);
            all-suppliers = λ e. some-none (sym here ∙ e);
          }

  pub counting-over :
      (us ss : List ℕ) (uc sc k : ℕ) → Counting cells n us₀ ss₀ us ss uc sc k → n ≤ k →
      Counted (supply_rows n cells) us ss (record { place = None; units = uc; suppliers = sc })
  unfolding over_limit_from numbers_from
  counting-over us ss uc sc k c h =
      record {
        place = rw (c.place, none_left);
        all-units = λ e.
            record {
              few = c.units-run.few;
              counted = rw is-units (sym (length-take-le uc us (omega (arith, c.units-run))));
              listed = sym is-units;
            };
        all-suppliers = λ e.
            record {
              few = c.suppliers-run.few;
              counted = rw is-suppliers (sym (length-take-le sc ss (omega (arith, c.suppliers-run))));
              listed = sym is-suppliers;
            };
      }
    where
      none_left : drop k (supply_rows n cells) ≡ []
      none_left = drop-end k (supply_rows n cells) (rw (supply-length n cells) h)

      is-units : units (supply_rows n cells) ≡ take uc us
      is-units = c.all-units ∙ rw none_left

      is-suppliers : suppliers (supply_rows n cells) ≡ take sc ss
      is-suppliers = c.all-suppliers ∙ rw none_left

pub too-many-units : (us ss : ℕ) → most_units < us → true ≡ too_many us ss
unfolding too_many
too-many-units us ss h = rw (lt-ltb most_units us h)

pub few-units : (us ss : ℕ) → us ≤ most_units → ltb most_suppliers ss ≡ too_many us ss
unfolding too_many
few-units us ss h = rw (le-ltb most_units us h)

-- rows of different units, of different suppliers, and the rest
module _ (r e : SupplyRow) where
  pub odds-unit : (r.unit ≡ e.unit → ⊥) → false ≡ supply_odds r e
  unfolding supply_odds
  odds-unit h = rw (ne_eqb r.unit e.unit h)

  pub odds-supplier : r.unit ≡ e.unit → (r.supplier ≡ e.supplier → ⊥) → true ≡ supply_odds r e
  unfolding supply_odds
  odds-supplier h k = rw (eq-eqb r.unit e.unit h, ne_eqb r.supplier e.supplier k)

  pub odds-dfax : r.unit ≡ e.unit → r.supplier ≡ e.supplier → not (eqb r.dfax e.dfax) ≡ supply_odds r e
  unfolding supply_odds
  odds-dfax h k = rw (eq-eqb r.unit e.unit h, eq-eqb r.supplier e.supplier k)

-- the rows before a place are those of the places below it, and whichever comes first, one of them passes a test or none does
earlier-any : (cells : List ℕ) (r : SupplyRow) (k : ℕ) → any (supply_odds r) (supply_before cells k) ≡ any_before (λ (j : ℕ). supply_odds r (supply_at cells j)) k
unfolding any supply_before any_before
earlier-any cells r zero = refl
earlier-any cells r (suc k) = rw (earlier-any cells r k)

range-more : (a k : ℕ) → range_with_len a (suc k) ≡ range_with_len a k ++ (a + k) ∷ []
range-more a zero = rw add-zero
range-more a (suc k) = rw (add-suc a k, ← suc-add a k, ← add-one a) (ap (λ (s : List ℕ). a ∷ s) (range-more (a + 1) k))

any-range : (p : ℕ → Bool) (k : ℕ) → list_any p (range_with_len 0 k) ≡ any_before p k
unfolding any_before
any-range p zero = refl
any-range p (suc k) =
    ap (list_any p) (range-more 0 k) ∙ list_any-append p (range_with_len 0 k) ((0 + k) ∷ [])
    ∙ rw (any-range p k, zero-add k, or-false (p k)) (or_comm (any_before p k) (p k))

pub earlier-range : (cells : List ℕ) (r : SupplyRow) (k : ℕ) → list_any (λ j. supply_odds r (supply_at cells j)) (range_with_len 0 k) ≡ any (supply_odds r) (supply_before cells k)
earlier-range cells r k = any-range _ k ∙ sym (earlier-any cells r k)

-- the last row of its key before the row at k
pub keyed-upto : (cells : List ℕ) (k left : ℕ) → left ≡ last_same (supply_key cells) (supply_key cells k) k → left ≤ k
keyed-upto cells k left is = rw is (last-upto (supply_key cells) (supply_key cells k) k)

-- the row at k against the last of its key, where those before it agree
module _ (cells : List ℕ) (k left : ℕ) (is : left ≡ last_same (supply_key cells) (supply_key cells k) k) where
  abbrev odd : ℕ → Bool
  odd j = supply_odds (supply_at cells k) (supply_at cells j)

  alike : (j : ℕ) → odd j ≡ true → supply_key cells j ≡ supply_key cells k
  unfolding supply_odds
  alike j e =
      rw (eqb-true (supply_at cells k).unit (supply_at cells j).unit (and-fst (eqb (supply_at cells k).unit (supply_at cells j).unit) _ e))

  as-last : any (supply_odds (supply_at cells k)) (supply_before cells k) ≡ any_before odd left
  as-last = earlier-any cells (supply_at cells k) k ∙ last-any (supply_key cells) odd (supply_key cells k) alike k ∙ rw (← is)

  pub last_none : left ≡ 0 → false ≡ any (supply_odds (supply_at cells k)) (supply_before cells k)
  unfolding any_before
  last_none e = sym (as-last ∙ rw e)

  -- rows that are not at odds, of one unit, are at odds with the same rows
  same-odds : (j : ℕ) → (supply_at cells k).unit ≡ (supply_at cells j).unit → odd j ≡ false → (e : SupplyRow) → supply_odds (supply_at cells k) e ≡ supply_odds (supply_at cells j) e
  unfolding supply_odds
  same-odds j unit agreed e =
      let shared = not-false _ (simp (eq-eqb (supply_at cells k).unit (supply_at cells j).unit unit) at agreed) in
      let supplier = eqb-true (supply_at cells k).supplier (supply_at cells j).supplier (and-fst _ (eqb (supply_at cells k).dfax (supply_at cells j).dfax) shared) in
      let dfax = eqb-true (supply_at cells k).dfax (supply_at cells j).dfax (and-snd (eqb (supply_at cells k).supplier (supply_at cells j).supplier) _ shared) in
      rw (unit, supplier, dfax)

  pub last-alone :
      0 < left → AgreeBefore cells k → (supply_at cells k).unit ≡ (supply_at cells (left - 1)).unit → (t : Bool) → t ≡ odd (left - 1) →
      t ≡ any (supply_odds (supply_at cells k)) (supply_before cells k)
  last-alone h agree unit t said = said ∙ sym (as-last ∙ any_last odd left h ∙ ⊎_elim here other (either (odd (left - 1))))
    where
      here : odd (left - 1) ≡ true → (odd (left - 1) || any_before odd (left - 1)) ≡ odd (left - 1)
      here e = rw e

      other : odd (left - 1) ≡ false → (odd (left - 1) || any_before odd (left - 1)) ≡ odd (left - 1)
      other e =
          rw e
          (sym (earlier-any cells (supply_at cells k) (left - 1))
          ∙ any_same (supply_odds (supply_at cells k)) (supply_odds (supply_at cells (left - 1))) (supply_before cells (left - 1)) (same-odds (left - 1) unit e)
          ∙ agree (left - 1) (omega (arith, keyed-upto cells k left is)))

-- n rows, of which the first k are at odds with none, and each key has its last row
pub record Agreeing (cells : List ℕ) (n : ℕ) (old last : List ℕ) (k : ℕ) : Type 0 where
  pub upto : k ≤ n
  pub room : n * 5 ≤ length cells
  pub keys-room : unit_keys ≤ length last
  pub same_length : length last ≡ length old
  pub agree : AgreeBefore cells k
  pub keys : (x : ℕ) → x < unit_keys → get_or last x 0 ≡ last_same (supply_key cells) x k
  pub rest : supply_at_odds (supply_rows n cells) ≡ first_at_odds supply_odds (supply_before cells k) (suc k) (drop k (supply_rows n cells))

module _ (cells : List ℕ) (n : ℕ) (old : List ℕ) where
  pub agreeing-none : n * 5 ≤ length cells → unit_keys ≤ length old → Unlinked old → Agreeing cells n old old 0
  unfolding supply_at_odds supply_before last_same
  agreeing-none h room unlinked =
      record {
        upto = omega arith;
        room = h;
        keys-room = room;
        same_length = refl;
        agree = λ (j : ℕ) (i : j < 0). absurd (omega arith);
        keys = λ (x : ℕ) (i : x < unit_keys). unlinked x;
        rest = refl;
      }

  -- the last row of the next row's key, x
  pub last-keyed : {last : List ℕ} {k : ℕ} (x : ℕ) → Agreeing cells n old last k → x ≡ supply_key cells k → x < unit_keys → get_or last x 0 ≡ last_same (supply_key cells) (supply_key cells k) k
  last-keyed x a key one = a.keys x one ∙ rw key

  module _ (last : List ℕ) (k : ℕ) (t : Bool) (a : Agreeing cells n old last k) (h : k < n) (is : t ≡ any (supply_odds (supply_at cells k)) (supply_before cells k)) where
    -- the row's key is x
    pub agreeing-next :
        (x y : ℕ) → t ≡ false → x ≡ supply_key cells k → x < unit_keys → y ≡ k + 1 → Agreeing cells n old (set last x y) (k + 1)
    agreeing-next x y e key one next =
        record {
          upto = omega arith;
          room = a.room;
          keys-room = rw (length-set last x y) a.keys-room;
          same_length = length-set last x y ∙ a.same_length;
          agree = agree-next;
          keys = keys-next;
          rest = a.rest ∙ (unfold first_at_odds supply_before in rw (supply-next n cells k h, ← is, e, add-one k));
        }
      where
        agree-next : AgreeBefore cells (k + 1)
        agree-next j f =
            ⊎_elim
            (λ (s : j ≡ k). rw s (sym is ∙ e))
            (λ (o : j ≡ k → ⊥). a.agree j (omega arith))
            (eq-or-ne j k)

        keys-next : (z : ℕ) → z < unit_keys → get_or (set last x y) z 0 ≡ last_same (supply_key cells) z (k + 1)
        keys-next z f = ⊎_elim here other (eq-or-ne z x) ∙ ap (last_same (supply_key cells) z) (sym (add-one k))
          where
            here : z ≡ x → get_or (set last x y) z 0 ≡ last_same (supply_key cells) z (suc k)
            here s =
                rw (s, get_or-set_same last x y 0 (omega (arith, a.keys-room)), last-here (supply_key cells) x k (sym key), next)
                (add-one k)

            other : (z ≡ x → ⊥) → get_or (set last x y) z 0 ≡ last_same (supply_key cells) z (suc k)
            other o =
                get_or-set_other last x z y 0 o
                ∙ a.keys z f ∙ sym (last-later (supply_key cells) z k (λ (s : supply_key cells k ≡ z). o (sym s ∙ sym key)))

    pub agreeing-here : t ≡ true → Some (k + 1) ≡ supply_at_odds (supply_rows n cells)
    unfolding first_at_odds
    agreeing-here e = rw (a.rest, supply-next n cells k h, ← is, e, add-one k)

  pub agreeing-over : (last : List ℕ) (k : ℕ) → Agreeing cells n old last k → n ≤ k → None ≡ supply_at_odds (supply_rows n cells)
  unfolding first_at_odds
  agreeing-over last k a h = rw (a.rest, drop-end k (supply_rows n cells) (rw (supply-length n cells) h))
