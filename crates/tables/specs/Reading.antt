-- Document 01, "Refused because of the input": reading one file, from bytes to rows of cells or the first refusal of
-- 1, 2, 4 and 3, in this order and each over the whole file. Assumes nothing.
use Rattle.std.specs.Prelude.{ℕ, Bool, true, false, cond, not, ◌&&◌, List, [], ◌∷◌, eqb, leb, length, drop, None, Option, Some, option_map}
use Rattle.base.specs.Search.{first, first_of}
use Rattle.base.specs.Text.{same}
use Rattle.csv_text.specs.Records.{rfc4180, records}
use Rattle.tables.specs.Table.{table, header, width}
use Rattle.tables.specs.Values.{well_formed}
use Rattle.tables.specs.declared.files.File.{File}
use Rattle.tables.specs.declared.files.Refusal.{Refusal}
use Rattle.tables.specs.Refusals.{refused}

-- what stands behind the header
unfoldable pub rows : List ℕ → List (List (List ℕ))
rows s = drop 1 (records s)

-- whether records have the fields of a header, each of the same text
unfoldable pub same_fields : List (List ℕ) → List (List ℕ) → Bool
same_fields [] [] = true
same_fields [] (w ∷ ws) = false
same_fields (v ∷ vs) [] = false
same_fields (v ∷ vs) (w ∷ ws) = same v w && same_fields vs ws

-- "header differs, or a record has another field count (first such record, header 0)"
unfoldable pub misfit : File → List (List (List ℕ)) → Option ℕ
misfit f [] = None
misfit f (r ∷ rs) =
    let later = first (λ (vs : List (List ℕ)). not (eqb (width f) (length vs))) 1 rs in
    cond (same_fields r (header f)) later (Some 0)

-- "wrong number of rows (place 0)"
unfoldable pub miscount : File → ℕ → Option ℕ
miscount f n = cond (leb (table f).fewest_rows n && leb n (table f).most_rows) None (Some 0)

-- "field ill-formed or out of range (first such record)"
unfoldable pub malformed : File → List (List (List ℕ)) → Option ℕ
malformed f rs = first (λ (vs : List (List ℕ)). not (well_formed (table f).columns vs)) 1 rs

-- "not RFC 4180 (place 0)"
unfoldable pub irregular : List ℕ → Option ℕ
irregular s = cond (rfc4180 s) None (Some 0)

-- the shape of a file, for which no field is read: 1, 2, 4
unfoldable pub misshapen : File → List ℕ → Option Refusal
misshapen f s =
    first_of
    (option_map (refused 1 f) (irregular s)
    ∷ option_map (refused 2 f) (misfit f (records s))
    ∷ option_map (refused 4 f) (miscount f (length (rows s)))
    ∷ [])

-- the first refusal of reading a file: 1, 2, 4, 3
unfoldable pub refusal : File → List ℕ → Option Refusal
refusal f s = first_of (misshapen f s ∷ option_map (refused 3 f) (malformed f (rows s)) ∷ [])
