-- The row at a place of a run of cells, by the places of its cells: one view for each kind of row. And the rows of an answer
-- out of such a run, as `tables/specs/Rows` has them for the files. Assumes nothing.
use Rattle.std.specs.Prelude.{ℕ, ◌+◌, ◌*◌, List, map, get_or}
use Rattle.tables.specs.Rows.{SupplyRow, ScheduleRow, PointRow, ParentRow}
use Rattle.tables.specs.declared.answer.AnswerRow.{AnswerRow}
use Rattle.tables.specs.promises.FlatRows.{rows_of}

-- the cells of a row
abbrev pub supply_width : ℕ
supply_width = 5

abbrev pub schedule_width : ℕ
schedule_width = 9

abbrev pub point_width : ℕ
point_width = 5

abbrev pub parent_width : ℕ
parent_width = 2

abbrev pub answer_width : ℕ
answer_width = 7

abbrev pub supply_at : List ℕ → ℕ → SupplyRow
supply_at cs i =
    record {
      unit = get_or cs (i * supply_width + 0) 0;
      supplier = get_or cs (i * supply_width + 1) 0;
      mw = get_or cs (i * supply_width + 2) 0;
      cost = get_or cs (i * supply_width + 3) 0;
      dfax = get_or cs (i * supply_width + 4) 0;
    }

abbrev pub schedule_at : List ℕ → ℕ → ScheduleRow
schedule_at cs i =
    record {
      unit = get_or cs (i * schedule_width + 0) 0;
      schedule = get_or cs (i * schedule_width + 1) 0;
      kind = get_or cs (i * schedule_width + 2) 0;
      hour = get_or cs (i * schedule_width + 3) 0;
      ecomin = get_or cs (i * schedule_width + 4) 0;
      price = get_or cs (i * schedule_width + 5) 0;
      noload = get_or cs (i * schedule_width + 6) 0;
      startup = get_or cs (i * schedule_width + 7) 0;
      minrun = get_or cs (i * schedule_width + 8) 0;
    }

abbrev pub point_at : List ℕ → ℕ → PointRow
point_at cs i =
    record {
      unit = get_or cs (i * point_width + 0) 0;
      schedule = get_or cs (i * point_width + 1) 0;
      hour = get_or cs (i * point_width + 2) 0;
      mw = get_or cs (i * point_width + 3) 0;
      price = get_or cs (i * point_width + 4) 0;
    }

abbrev pub parent_at : List ℕ → ℕ → ParentRow
parent_at cs i =
    record {
      supplier = get_or cs (i * parent_width + 0) 0;
      parent = get_or cs (i * parent_width + 1) 0;
    }

abbrev pub answer_at : List ℕ → ℕ → AnswerRow
answer_at cs i =
    record {
      unit = get_or cs (i * answer_width + 0) 0;
      supplier = get_or cs (i * answer_width + 1) 0;
      verdict = get_or cs (i * answer_width + 2) 0;
      left = get_or cs (i * answer_width + 3) 0;
      schedule = get_or cs (i * answer_width + 4) 0;
      kind = get_or cs (i * answer_width + 5) 0;
      cost = get_or cs (i * answer_width + 6) 0;
    }

abbrev pub answer_row : List ℕ → AnswerRow
answer_row cs =
    record {
      unit = get_or cs 0 0;
      supplier = get_or cs 1 0;
      verdict = get_or cs 2 0;
      left = get_or cs 3 0;
      schedule = get_or cs 4 0;
      kind = get_or cs 5 0;
      cost = get_or cs 6 0;
    }

-- the first n rows that stand in a run of cells
unfoldable pub answer_rows : ℕ → List ℕ → List AnswerRow
answer_rows n cs = map answer_row (rows_of answer_width n cs)
