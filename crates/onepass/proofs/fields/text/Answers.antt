-- A text by its form. Assumes nothing.
use Rattle.tables.specs.declared.columns.Form.TheVariants.{Numeral as numeral, Signed as signed, Letter as letter}
use Rattle.onepass.proofs.FieldLaws.{as-form}
use Rattle.onepass.proofs.fields.text.Goals as goal

pub returns-in-Numeral : goal.returns-in-Numeral
returns-in-Numeral c = as-form numeral _ _ _ _ c.numeral.result c.in-Numeral.is c.numeral.ensures.text_found

pub returns-in-Signed : goal.returns-in-Signed
returns-in-Signed c = as-form signed _ _ _ _ c.signed.result c.in-Signed.is c.signed.ensures

pub returns-in-Letter : goal.returns-in-Letter
returns-in-Letter c = as-form letter _ _ _ _ c.letter.result c.in-Letter.is c.letter.ensures
