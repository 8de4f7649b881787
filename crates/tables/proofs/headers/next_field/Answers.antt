-- Where what follows a field begins. Assumes nothing.
use Rattle.tables.proofs.headers.next_field.Goals as goal

pub returns : goal.returns
returns c = record { s_value = rw (← c.field_length-n.ensures.value) c.after_field.ensures.s_value; upper_bound = c.after_field.ensures.upper_bound }
