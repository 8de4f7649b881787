-- A numeral out of quotes. Assumes nothing.
use Rattle.base.proofs.Tests.{false-true}
use Rattle.onepass.proofs.fields.begins_numeral.Goals as goal

pub returns-in-Numeral : goal.returns-in-Numeral
returns-in-Numeral c = λ e. c.in-Numeral.is

pub returns-in-Signed : goal.returns-in-Signed
returns-in-Signed c = λ e. false-true e

pub returns-in-Letter : goal.returns-in-Letter
returns-in-Letter c = λ e. false-true e
