-- Laws of rows that are held to the rules while curves put prices into them: one for each way through the code. Assumes nothing.
use Rattle.std.specs.Prelude.{Err, None, Ok, Option, Result, Some, option_map}
use Prim.Native.Nat.{ℕ}
use mathlib.Core.Path.{◌≡◌, refl, sym, ◌∙◌}
use mathlib.Core.List.{List, ◌∷◌}
use lib.ListN.{length}
use Rattle.base.specs.Search.{first_of}
use Rattle.base.proofs.FirstLaws.{first-of-here, first-of-later, first-of-part, first-of-rest}
use Rattle.base.proofs.Searches.{first-of-none}
use Rattle.tables.specs.Reading.{refusal}
use Rattle.tables.specs.Refusals.{refused}
use Rattle.tables.specs.declared.files.File.TheVariants.{Schedules, Curves}
use Rattle.tables.specs.declared.files.Refusal.{Refusal}
use Rattle.tables.specs.promises.FlatRows.{schedule_rows}
use Rattle.links.specs.promises.Links.{RowsLinked}
use Rattle.schedules.specs.Schedules.{not_in_supply}
use Rattle.schedules.specs.promises.Ranges.{Checked}
use Rattle.curves.proofs.PricedLaws.{priced-odds, priced-scheduled, priced-runs, priced-permitted, priced-linked}
use Rattle.checking.specs.promises.Alone.{rows_unless}
use Rattle.checking.specs.promises.Curves.{CurvesChecked, RowsHeld, PricedHeld}
use Rattle.checking.specs.promises.Rules.{priced_refusals}
use Rattle.checking.specs.Files.{or_header, curves_of, alone_refusals, curves_refusals, units_refusals}
use Rattle.checking.proofs.CurvesLaws.{prices-refused, no-curves-passed}
use Rattle.checking.proofs.KeptLaws.{curves-kept}
use Rattle.checking.proofs.RuleLaws.{rows-answered, refused-answered, seventh-broken, seventh-kept}

-- 7, then the rest
module _
    (waiting : Option Refusal) (hour : ℕ) (us k : List ℕ) (n : ℕ) (old : List ℕ) {p : Result ℕ Refusal}
    (first : p ≡ rows_unless (option_map (refused 7 Schedules) (not_in_supply us (schedule_rows n old))) n)
  where
    pub rows-not-known : {x : Refusal} → p ≡ Err x → RowsHeld waiting hour us k n old old (Err x)
    rows-not-known {x} e = prices-refused _ _ n old old n x (seventh-broken waiting hour us (schedule_rows n old) k n first e)

    pub rows-known :
        {m : ℕ} → p ≡ Ok m → (new : List ℕ) (r : Result ℕ Refusal) → PricedHeld waiting hour us k n old new r →
        RowsHeld waiting hour us k n old new r
    rows-known e new r held = rw (seventh-kept waiting hour us (schedule_rows n old) k n first e) held

-- curves
module _ (k : List ℕ) (n : ℕ) (old new : List ℕ) {q : Result ℕ Refusal} (curves : CurvesChecked k n old new q) where
  module _ {m : ℕ} (e : q ≡ Ok m) where
    none-refused : first_of (curves_refusals (schedule_rows n old) k) ≡ None
    none-refused = (rows-answered _ (length (curves_of k)) (sym curves.answers ∙ e)).0

    -- the rows are linked, and such as the rules ask for, at their prices too
    pub still-linked : {links : List ℕ} → RowsLinked old n links → RowsLinked new n links
    still-linked = priced-linked (curves_of k) n old new (curves.by-curves none-refused)

    pub still-checked : (hour : ℕ) → Checked hour (schedule_rows n old) → Checked hour (schedule_rows n new)
    unfolding curves_refusals alone_refusals
    still-checked hour c =
        rw (curves.by-curves none-refused)
        (record {
          hour = c.hour;
          ranges = priced-permitted (curves-kept k (first-of-none (refusal Curves (or_header Curves k)) _ none-refused).0) c.ranges;
          agree = priced-odds (curves_of k) (schedule_rows n old) ∙ c.agree;
        })

    same_units : (hour : ℕ) (us : List ℕ) → units_refusals hour us (schedule_rows n new) ≡ units_refusals hour us (schedule_rows n old)
    unfolding units_refusals
    same_units hour us =
        rw (
          curves.by-curves none-refused,
          priced-scheduled (curves_of k) us (schedule_rows n old),
          priced-runs (curves_of k) hour us (schedule_rows n old),
        )

  -- then what waits, then 8 and 9
  module _ (waiting : Option Refusal) (hour : ℕ) (us : List ℕ) where
    pub curves-refused : {x : Refusal} → q ≡ Err x → PricedHeld waiting hour us k n old new (Err x)
    unfolding priced_refusals
    curves-refused {x} e =
        prices-refused _ _ n old new n x
        (first-of-part (curves_refusals (schedule_rows n old) k) _ x (refused-answered _ (length (curves_of k)) (sym curves.answers ∙ e)))

    module _ {m : ℕ} (e : q ≡ Ok m) where
      waiting-first : first_of (priced_refusals waiting hour us (schedule_rows n old) k) ≡ first_of (waiting ∷ units_refusals hour us (schedule_rows n old))
      unfolding priced_refusals
      waiting-first = first-of-rest (curves_refusals (schedule_rows n old) k) _ (none-refused e)

      pub waited : {x : Refusal} → waiting ≡ Some x → PricedHeld waiting hour us k n old new (Err x)
      waited {x} w = prices-refused _ _ n old new n x (waiting-first ∙ first-of-here _ _ _ w)

      pub units-held :
          waiting ≡ None → {r : Result ℕ Refusal} → r ≡ rows_unless (first_of (units_refusals hour us (schedule_rows n new))) n →
          PricedHeld waiting hour us k n old new r
      units-held w held =
          record {
            answers = held ∙ rw (same_units e hour us, waiting-first ∙ first-of-later _ _ w);
            by-curves = λ _. curves.by-curves (none-refused e);
          }

-- no curves
pub held-unpriced :
    (k : List ℕ) → length k ≡ 0 → (n : ℕ) (cells : List ℕ) (waiting : Option Refusal) (hour : ℕ) (us : List ℕ) (r : Result ℕ Refusal) →
    r ≡ rows_unless (first_of (waiting ∷ units_refusals hour us (schedule_rows n cells))) n → PricedHeld waiting hour us k n cells cells r
held-unpriced k e n cells waiting hour us r held =
    let curves = no-curves-passed k e n cells in
    record {
      answers = held ∙ rw (waiting-first k n cells cells curves waiting hour us refl);
      by-curves = λ _. curves.by-curves (none-refused k n cells cells curves refl);
    }
