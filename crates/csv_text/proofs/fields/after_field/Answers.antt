-- Where what is left unread begins, by where the field ends. Assumes nothing.
use Rattle.csv_text.proofs.Parts.{unread-end, unread-comma, unread-short, unread-crlf}
use borrow.Author.Rules.{rules}
use Rattle.csv_text.proofs.fields.after_field.Goals as goal

pub returns-then-end-n : goal.returns-then-end-n
returns-then-end-n c = record { s_value = unread-end _ _ c.if-end-n.true; upper_bound = search rules }

pub returns-then-s-n-eq-COMMA : goal.returns-then-s-n-eq-COMMA
returns-then-s-n-eq-COMMA c = record { s_value = unread-comma _ _ c.if-s-n-eq-COMMA.true; upper_bound = search rules }

pub returns-then-end-n-2 : goal.returns-then-end-n-2
returns-then-end-n-2 c = record { s_value = unread-short _ _ c.if-end-n-2.true c.if-s-n-eq-COMMA.false; upper_bound = search rules }

pub returns : goal.returns
returns c = record { s_value = unread-crlf _ _ c.if-s-n-eq-COMMA.false; upper_bound = search rules }
