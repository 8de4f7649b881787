-- Two fields by their texts. Assumes nothing.
use Rattle.tables.proofs.HeaderLaws.{texts-same}
use Rattle.tables.proofs.headers.same_field.Goals as goal

pub returns : goal.returns
returns c =
    texts-same _ _ _ _ _ _ c.field_length-n.ensures.value c.field_length-m.ensures.value c.inner.ensures
    c.inner-2.ensures c.same_text.ensures
