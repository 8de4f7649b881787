-- Whether a unit runs, as a number. Assumes nothing.
use Rattle.running.proofs.AskingLaws.{no-newcomer, a-newcomer}
use Rattle.running.proofs.units.Units.newcomer.Goals as goal

pub returns-in-Some : goal.returns-in-Some
returns-in-Some c = no-newcomer c.args.self _ c.place_of.ensures c.in-Some.is

pub returns-in-None : goal.returns-in-None
returns-in-None c = a-newcomer c.args.self _ c.place_of.ensures c.in-None.is
