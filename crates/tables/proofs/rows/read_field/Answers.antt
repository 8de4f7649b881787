-- A field by its parts. Assumes nothing.
use Rattle.tables.proofs.RowLaws.{field-read}
use Rattle.tables.proofs.rows.read_field.Goals as goal

pub returns : goal.returns
returns c =
    field-read _ _ _ _ _ c.field_length-n.ensures.value c.inner-text.ensures c.cell.ensures c.after_field.ensures.s_value
    c.after_field.ensures.upper_bound
