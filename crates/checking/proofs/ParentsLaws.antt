-- Laws of checking parents: one for each way through the code, and that a file of no bytes names none. Assumes nothing.
use Rattle.std.specs.Prelude.{Err, None, Ok, Option, Result, Some, option_map}
use Prim.Native.Nat.{ℕ, ◌≤◌}
use mathlib.Core.Path.{◌≡◌, refl, sym, ◌∙◌, ap}
use mathlib.Core.List.{List, [], ◌∷◌}
use native.Mathlib.Omega.{arith}
use lib.ListN.{length}
use Rattle.base.specs.Search.{first_of}
use Rattle.base.proofs.Elements.{all-mem}
use Rattle.base.proofs.FirstLaws.{first-of-one, first-of-here, first-of-later}
use Rattle.tables.specs.promises.Laying.{FileRead, room}
use Rattle.tables.specs.Reading.{refusal}
use Rattle.tables.specs.Rows.{SupplyRow, ParentRow}
use Rattle.tables.specs.declared.files.File.TheVariants.{Parents}
use Rattle.tables.specs.declared.files.Refusal.{Refusal}
use Rattle.tables.proofs.Accepted.{accepted}
use Rattle.tables.proofs.Starred.{starred_all}
use Rattle.tables.specs.Refusals.{refused}
use Rattle.tables.specs.promises.FlatRows.{supply_rows, parent_rows}
use Rattle.cells.proofs.RowViews.{parent-length}
use Rattle.affiliates.specs.Affiliates.{given_twice, ringed, grouped}
use Rattle.affiliates.specs.promises.Laying.{ParentCells, ParentsIn, ParentsLaid, headed}
use Rattle.affiliates.proofs.GroupLaws.{no-parents}
use Rattle.affiliates.proofs.GroupingLaws.{headed-grouped}
use Rattle.affiliates.proofs.Computing.{affiliates_all}
use Rattle.checking.specs.Files.{or_header, parents_of, affiliate_refusals, alone_refusals}
use Rattle.checking.specs.promises.Parents.{Groups, RowsGrouped, ParentsChecked}
use Rattle.checking.proofs.FilesLaws.{was_read, was-refused, parents-count, parent-rows}
use Rattle.checking.proofs.KeptLaws.{parents-kept}
use Rattle.checking.proofs.Rooms.{parents-room}
use Rattle.checking.proofs.RuleLaws.{some-none}
use Rattle.checking.proofs.Computing.{files_all}

-- refused, and supply as it was
module _ (o : Option Refusal) (ps : List ParentRow) (n : ℕ) (supply : List ℕ) where
  groups-refused : (x : Refusal) → o ≡ Some x → Groups o ps n supply supply (Err x)
  groups-refused x e =
      record { answers = rw e; by-groups = λ z. some-none (sym e ∙ z); as_before = λ _ _. refl }

-- a file of no bytes
pub no_rows : parents_of [] ≡ []
unfolding files_all starred_all
no_rows = refl

pub none-refused : first_of (alone_refusals Parents []) ≡ None
unfolding files_all starred_all affiliates_all
none-refused = refl

pub no-groups : (p : List ℕ) → length p ≡ 0 → (rs : List SupplyRow) → grouped (parents_of p) rs ≡ rs
no-groups [] e rs = rw no_rows (no-parents rs)
no-groups (b ∷ p) e rs = absurd (omega arith)

pub no-parents-passed : (p : List ℕ) → length p ≡ 0 → (n : ℕ) (supply : List ℕ) → ParentsChecked p n supply supply (Ok 0)
no-parents-passed [] e n supply =
    record {
      answers = rw (none-refused, no_rows);
      by-groups = λ _. sym (no-groups [] e (supply_rows n supply));
      as_before = λ _ _. refl;
    }
no-parents-passed (b ∷ p) e n supply = absurd (omega arith)

-- rows of parents, held to 35 and 36
module _ (count : ℕ) (cells run : List ℕ) (twice : Option ℕ) (laid : ParentsLaid (parent_rows count cells) run twice) where
  abbrev ps : List ParentRow
  ps = parent_rows count cells

  pub rows-given-twice :
      (n : ℕ) (supply : List ℕ) {p : ℕ} → twice ≡ Some p → {x : Refusal} → x ≡ refused 35 Parents p →
      RowsGrouped ps n supply supply (Err x)
  unfolding affiliate_refusals
  rows-given-twice n supply h {x} f =
      groups-refused _ ps n supply x (first-of-here _ _ _ (rw (← laid.place, h, f)))

  module _ (z : twice ≡ None) where
    given-once : given_twice ps ≡ None
    given-once = sym laid.place ∙ z

    pub parents-in : ParentsIn ps run
    parents-in = laid.all-parents given-once

    module _ (n : ℕ) (supply : List ℕ) (ring : Option ℕ) (told : ring ≡ ringed ps) where
      ring-first : first_of (affiliate_refusals ps) ≡ option_map (refused 36 Parents) (ringed ps)
      unfolding affiliate_refusals
      ring-first = first-of-later _ _ (ap (option_map (refused 35 Parents)) given-once) ∙ first-of-one _

      pub rows-ringed : {p : ℕ} → ring ≡ Some p → {x : Refusal} → x ≡ refused 36 Parents p → RowsGrouped ps n supply supply (Err x)
      rows-ringed h {x} f = groups-refused _ ps n supply x (ring-first ∙ rw (← told, h, f))

      pub rows-grouped :
          ring ≡ None → (new : List ℕ) → supply_rows n new ≡ headed run count (supply_rows n supply) →
          RowsGrouped ps n supply new (Ok count)
      rows-grouped y new heads =
          let none-broken : first_of (affiliate_refusals ps) ≡ None = ring-first ∙ ap (option_map (refused 36 Parents)) (sym told ∙ y) in
          let counted = parent-length count cells in
          record {
            answers = rw (none-broken, counted);
            by-groups = λ _. heads ∙ headed-grouped ps run parents-in count (sym counted) (supply_rows n supply);
            as_before = λ x f. some-none (sym f ∙ none-broken);
          }

-- a file of some bytes
module _ (p old cells : List ℕ) (r : Result ℕ Refusal) (whole : or_header Parents p ≡ p) (read : FileRead Parents p old cells r) where
  pub parents-unread : (n : ℕ) (supply : List ℕ) {x : Refusal} → r ≡ Err x → ParentsChecked p n supply supply (Err x)
  unfolding alone_refusals
  parents-unread n supply {x} e =
      groups-refused _ (parents_of p) n supply x (first-of-here _ _ _ (rw whole (was-refused Parents p read.answers e)))

  module _ (count : ℕ) (e : r ≡ Ok count) where
    were-read : refusal Parents p ≡ None
    were-read = (was_read Parents p read.answers e).0

    number : count ≡ length (parents_of p)
    number = (was_read Parents p read.answers e).1 ∙ sym (rw whole at (parents-count p))

    rows-read : parent_rows count cells ≡ parents_of p
    rows-read = rw number (parent-rows p old cells r whole were-read read)

    pub parents-cells : room Parents ≤ length cells → ParentCells count cells
    parents-cells m =
        let few : count ≤ 64 = rw (was_read Parents p read.answers e).1 (accepted Parents p were-read).most in
        record {
          few = few;
          inside = omega (arith, parents-room);
          permitted = λ q i. all-mem (parents-kept p (rw whole were-read)) (rw rows-read at i);
        }

    pub parents-passed :
        (n : ℕ) (supply new : List ℕ) (a : Result ℕ Refusal) → RowsGrouped (parent_rows count cells) n supply new a → ParentsChecked p n supply new a
    unfolding alone_refusals
    parents-passed n supply new a groups =
        let rest : first_of (alone_refusals Parents p) ≡ first_of (affiliate_refusals (parents_of p)) =
        first-of-later _ _ (rw whole were-read)
        in
        rw (rest, ← rows-read) groups
