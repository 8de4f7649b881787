-- Each state by its own function. Assumes nothing.
use Rattle.csv_text.specs.Records.{next}
use Rattle.csv_text.proofs.scanning.next.Goals as goal

pub returns-in-Begin : goal.returns-in-Begin
returns-in-Begin c = rw c.in-Begin.is c.after_begin.ensures

pub returns-in-Plain : goal.returns-in-Plain
returns-in-Plain c = rw c.in-Plain.is c.after_plain.ensures

pub returns-in-Quoted : goal.returns-in-Quoted
returns-in-Quoted c = rw c.in-Quoted.is c.after_quoted.ensures

pub returns-in-Closing : goal.returns-in-Closing
returns-in-Closing c = rw c.in-Closing.is c.after_closing.ensures

pub returns-in-Ended : goal.returns-in-Ended
returns-in-Ended c = rw c.in-Ended.is c.after_ended.ensures

pub returns-in-Broken : goal.returns-in-Broken
unfolding next
returns-in-Broken c = rw c.in-Broken.is
