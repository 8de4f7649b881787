-- A field in quotes or not. Assumes nothing.
use Rattle.std.proofs.Common.{Some, refl, arith}
use Rattle.tables.specs.declared.columns.Form.TheVariants.{Numeral as numeral}
use Rattle.onepass.proofs.FieldLaws.{as-form, is_plain, is-quoted}
use Rattle.onepass.proofs.fields.field.Goals as goal

pub returns-then-begins_numeral : goal.returns-then-begins_numeral
returns-then-begins_numeral c =
    is_plain _ _ _ c.numeral.result refl
    (as-form numeral _ _ _ _ c.numeral.result (c.begins_numeral.ensures c.if-begins_numeral.true) c.numeral.ensures.text_found)

pub returns-then-at-eq0 : goal.returns-then-at-eq0
returns-then-at-eq0 c = is_plain _ _ _ (Some c.in_ok-inside.inside) (omega arith) c.in_ok-inside.ensures

pub returns : goal.returns
returns c =
    is-quoted _ _ _ _ c.closed.result (omega arith) c.quote_length-at.ensures c.if-at-eq0.false c.in_ok-inside.ensures
    c.closed.ensures
