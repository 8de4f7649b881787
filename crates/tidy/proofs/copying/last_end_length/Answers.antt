-- Nothing, or a CR LF. Assumes nothing.
use mathlib.Core.Path.{sym, ◌∙◌, ap}
use lib.ListN.{length}
use Rattle.tidy.proofs.CopyLaws.{has_end, lacks-end}
use Rattle.tidy.proofs.copying.last_end_length.Goals as goal

pub returns-then-ends_in_line_end : goal.returns-then-ends_in_line_end
returns-then-ends_in_line_end c = sym (ap length (has_end c.args.s.now (sym c.ends_in_line_end.ensures ∙ c.if-ends_in_line_end.true)))

pub returns : goal.returns
returns c = sym (ap length (lacks-end c.args.s.now (sym c.ends_in_line_end.ensures ∙ c.if-ends_in_line_end.false)))
