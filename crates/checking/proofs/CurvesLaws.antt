-- Laws of checking curves: one for each way through the code, and that a file of no bytes prices nothing. Assumes nothing.
use Rattle.std.specs.Prelude.{Err, None, Ok, Option, Result, Some, option_map}
use Prim.Native.Nat.{ℕ, ◌≤◌}
use mathlib.Core.Path.{◌≡◌, refl, sym, ◌∙◌, ap}
use mathlib.Core.List.{List, [], ◌∷◌}
use native.Mathlib.Omega.{arith}
use lib.ListN.{length}
use Rattle.base.specs.Search.{first_of}
use Rattle.base.proofs.FirstLaws.{first-of-one, first-of-here, first-of-later}
use Rattle.tables.specs.promises.Laying.{FileRead, room}
use Rattle.tables.specs.Reading.{refusal}
use Rattle.tables.specs.Rows.{ScheduleRow, PointRow}
use Rattle.tables.specs.declared.files.File.TheVariants.{Curves}
use Rattle.tables.specs.declared.files.Refusal.{Refusal}
use Rattle.tables.proofs.Accepted.{accepted}
use Rattle.tables.proofs.Starred.{starred_all}
use Rattle.tables.specs.Refusals.{refused}
use Rattle.tables.specs.promises.FlatRows.{schedule_rows, point_rows}
use Rattle.curves.specs.Curves.{stray_point, disordered, ends_low}
use Rattle.curves.specs.promises.Placing.{PointCells, Placed, PointsPlaced, LastsIn, OrderFound}
use Rattle.curves.specs.promises.Pricing.{RowsPriced}
use Rattle.curves.proofs.Computing.{curves_all}
use Rattle.curves.proofs.PricedLaws.{no-points, rows-priced}
use Rattle.checking.specs.Files.{or_header, curves_of, point_refusals, alone_refusals, curves_refusals}
use Rattle.checking.specs.promises.Curves.{Prices, RowsPricedBy, CurvesChecked, curve_refusals, CurvesHeld}
use Rattle.checking.proofs.FilesLaws.{was_read, was-refused, curves-count, point-rows}
use Rattle.checking.proofs.Rooms.{curves-room}
use Rattle.checking.proofs.RuleLaws.{some-none}
use Rattle.checking.proofs.Computing.{files_all}

-- refused, whatever the rows are now
pub prices-refused :
    (o : Option Refusal) (vs : List PointRow) (n : ℕ) (old new : List ℕ) (count : ℕ) (x : Refusal) → o ≡ Some x →
    Prices o vs n old new count (Err x)
prices-refused o vs n old new count x e = record { answers = rw e; by-curves = λ z. some-none (sym e ∙ z) }

-- a file of no bytes
pub no-curves : curves_of [] ≡ []
unfolding files_all starred_all
no-curves = refl

pub no-curves-refused : (rs : List ScheduleRow) → first_of (curves_refusals rs []) ≡ None
unfolding files_all starred_all curves_all
no-curves-refused rs = refl

pub no-curves-passed : (k : List ℕ) → length k ≡ 0 → (n : ℕ) (cells : List ℕ) → CurvesChecked k n cells cells (Ok 0)
no-curves-passed [] e n cells =
    record {
      answers = rw (no-curves-refused (schedule_rows n cells), no-curves);
      by-curves = λ _. rw no-curves (sym (no-points (schedule_rows n cells)));
    }
no-curves-passed (b ∷ k) e n cells = absurd (omega arith)

-- points that have their rows, held to 33
module _ (m : ℕ) (points places lasts : List ℕ) (fault : Option ℕ) (ordered : OrderFound m points places lasts fault) where
  in_order : fault ≡ None → disordered (point_rows m points) ≡ None
  in_order z = sym ordered.fault ∙ z

  pub lasts-in : fault ≡ None → LastsIn places lasts m
  lasts-in z = ordered.all-lasts (in_order z)

  -- and to 34
  module _ (n : ℕ) (cells : List ℕ) where
    abbrev rs : List ScheduleRow
    rs = schedule_rows n cells

    abbrev vs : List PointRow
    vs = point_rows m points

    held-refused : (x : Refusal) → first_of (curve_refusals rs vs) ≡ Some x → CurvesHeld m points n cells cells (Err x)
    held-refused x e = record { answers = rw e; by-curves = λ z. some-none (sym e ∙ z) }

    pub points-disordered : {k : ℕ} → fault ≡ Some k → {x : Refusal} → x ≡ refused 33 Curves k → CurvesHeld m points n cells cells (Err x)
    unfolding curve_refusals
    points-disordered h {x} f = held-refused x (first-of-here _ _ _ (rw (sym ordered.fault ∙ h, f)))

    module _ (z : fault ≡ None) (low : Option ℕ) (told : low ≡ ends_low rs vs) where
      low_first : first_of (curve_refusals rs vs) ≡ option_map (refused 34 Curves) (ends_low rs vs)
      unfolding curve_refusals
      low_first = first-of-later _ _ (ap (option_map (refused 33 Curves)) (in_order z)) ∙ first-of-one _

      pub curves-low : {k : ℕ} → low ≡ Some k → {x : Refusal} → x ≡ refused 34 Curves k → CurvesHeld m points n cells cells (Err x)
      curves-low h {x} f = held-refused x (low_first ∙ rw (sym told ∙ h, f))

      pub curves-priced : low ≡ None → (new : List ℕ) → RowsPriced m points n cells new → CurvesHeld m points n cells new (Ok m)
      curves-priced y new priced-rows =
          let none-broken : first_of (curve_refusals rs vs) ≡ None = low_first ∙ ap (option_map (refused 34 Curves)) (sym told ∙ y) in
          record { answers = rw none-broken; by-curves = λ _. priced-rows }

-- points, held to 32 and then to these
module _ (m : ℕ) (points : List ℕ) (n : ℕ) (cells places : List ℕ) (stray : Option ℕ) (placed : PointsPlaced m points n cells places stray) where
  none-stray : stray ≡ None → stray_point (schedule_rows n cells) (point_rows m points) ≡ None
  none-stray z = sym placed.stray ∙ z

  pub all_placed : stray ≡ None → Placed m points n cells places
  all_placed z = placed.all_placed (none-stray z)

  pub point-stray : {k : ℕ} → stray ≡ Some k → {x : Refusal} → x ≡ refused 32 Curves k → RowsPricedBy m points n cells cells (Err x)
  unfolding point_refusals
  point-stray h {x} f = prices-refused _ _ n cells cells m x (first-of-here _ _ _ (rw (sym placed.stray ∙ h, f)))

  pub points-held : stray ≡ None → (new : List ℕ) (r : Result ℕ Refusal) → CurvesHeld m points n cells new r → RowsPricedBy m points n cells new r
  unfolding point_refusals curve_refusals
  points-held z new r held =
      let later : first_of (point_refusals (schedule_rows n cells) (point_rows m points)) ≡ first_of (curve_refusals (schedule_rows n cells) (point_rows m points)) =
      first-of-later _ _ (ap (option_map (refused 32 Curves)) (none-stray z)) in
      record {
        answers = held.answers ∙ rw later;
        by-curves = λ e. rows-priced (held.by-curves (sym later ∙ e));
      }

-- a file of some bytes
module _ (k old cells : List ℕ) (r : Result ℕ Refusal) (whole : or_header Curves k ≡ k) (read : FileRead Curves k old cells r) where
  pub curves-unread : (n : ℕ) (rows : List ℕ) {x : Refusal} → r ≡ Err x → CurvesChecked k n rows rows (Err x)
  unfolding curves_refusals alone_refusals
  curves-unread n rows {x} e =
      prices-refused _ _ n rows rows _ x (first-of-here _ _ _ (rw whole (was-refused Curves k read.answers e)))

  module _ (m : ℕ) (e : r ≡ Ok m) where
    were-read : refusal Curves k ≡ None
    were-read = (was_read Curves k read.answers e).0

    number : m ≡ length (curves_of k)
    number = (was_read Curves k read.answers e).1 ∙ sym (rw whole at (curves-count k))

    points-read : point_rows m cells ≡ curves_of k
    points-read = rw number (point-rows k old cells r whole were-read read)

    pub curves-cells : room Curves ≤ length cells → PointCells m cells
    curves-cells room-enough =
        let few : m ≤ 4096 = rw (was_read Curves k read.answers e).1 (accepted Curves k were-read).most in
        record { few = few; inside = omega (arith, curves-room) }

    pub curves-passed :
        (n : ℕ) (rows new : List ℕ) (a : Result ℕ Refusal) → RowsPricedBy m cells n rows new a → CurvesChecked k n rows new a
    unfolding curves_refusals alone_refusals
    curves-passed n rows new a prices =
        let rest : first_of (curves_refusals (schedule_rows n rows) k) ≡ first_of (point_refusals (schedule_rows n rows) (curves_of k)) =
        first-of-later _ _ (rw whole were-read) in
        rw (rest, ← number, ← points-read) prices
