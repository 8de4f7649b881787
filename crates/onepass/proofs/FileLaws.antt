-- Laws of a whole file: a header and rows that were walked through are a file by RFC 4180, and nothing in it is refused.
-- Assumes nothing.
use Rattle.std.specs.Prelude.{None, Result, Ok}
use Rattle.tables.specs.declared.files.Refusal.{Refusal}
use Rattle.std.proofs.Common.{◌≡◌, ℕ, ◌-◌, ◌≤◌, List, ◌∷◌, ◌++◌, length, take, drop, sym, refl, ap, ◌∙◌, arith, drop_at}
use Rattle.base.proofs.Lists.{rest-lent}
use Rattle.csv_text.specs.Grammar.{File as Grammar-as-File}
use Rattle.csv_text.specs.promises.Rows.{crlf}
use Rattle.csv_text.proofs.Written.{rows-file}
use Rattle.tables.specs.Table.{table, header}
use Rattle.tables.specs.Reading.{rows, malformed, misshapen}
use Rattle.tables.specs.promises.Laying.{FileRead}
use Rattle.tables.proofs.ReadLaws.{rows-read}
use Rattle.tables.proofs.Written.{values-are, well-shaped, well-formed, all-cells}
use Rattle.tables.specs.declared.files.File.{File}
use Rattle.tables.specs.promises.Answers.{laid, all_cells}
use Rattle.onepass.specs.promises.Walk.{RowsFound, HeaderFound}

module _ (f : File) (s old new : List ℕ) (start n : ℕ) where
  pub is-passed :
      HeaderFound f s start → RowsFound f (take (length s - start) (drop start s)) old new n →
      (table f).fewest_rows ≤ n → FileRead f s old new (Ok n)
  is-passed h w l = rw count (rows-read f s old new shape formed is-laid)
    where
      all : RowsFound f (drop start s) old new n
      all = rw (rest-lent start s) at w

      file : Grammar-as-File s (header f ∷ all.values)
      file = rows-file h.names crlf all.rows

      fewest : (table f).fewest_rows ≤ length all.values
      fewest = omega (arith, all.counted)

      most : length all.values ≤ (table f).most_rows
      most = omega (arith, all.counted, all.most)

      values : rows s ≡ all.values
      values = values-are f file all.read fewest most

      count : n ≡ length (rows s)
      count = all.counted ∙ sym (ap length values)

      shape : misshapen f s ≡ None
      shape = well-shaped f file all.read fewest most

      formed : malformed f (rows s) ≡ None
      formed = well-formed f file all.read fewest most

      is-laid : new ≡ all_cells (table f).columns (rows s) ++ drop (length (all_cells (table f).columns (rows s))) old
      is-laid = rw (values, all-cells all.read) all.laid

-- a file's cells at the start of the run, whatever stood there before
pub laid-again : (f : File) (s old new : List ℕ) (r : Result ℕ Refusal) → FileRead f s old new r → FileRead f s new new r
laid-again f s old new r w =
    record { answers = w.answers; lays = w.lays ∙ ap (λ (l : List ℕ). laid f s ++ l) (sym behind) }
  where
    behind : drop (length (laid f s)) new ≡ drop (length (laid f s)) old
    behind =
        ap (drop (length (laid f s))) w.lays
        ∙ drop_at (laid f s) (drop (length (laid f s)) old) (length (laid f s)) refl
