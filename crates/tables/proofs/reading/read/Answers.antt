-- The scan, then the records. Assumes nothing.
use Rattle.tables.proofs.ReadLaws.{read-irregular, scan-shaped}
use Rattle.tables.proofs.reading.read.Goals as goal

pub read_records-requires : goal.read_records-requires
read_records-requires c = record { shaped = scan-shaped _ _ c.width.ensures c.scan-scanned.ensures c.in-Some.is; file_in_bounds = c.requires }

pub returns-in-None : goal.returns-in-None
returns-in-None c = rw c.refused.ensures (read-irregular _ _ _ c.width.ensures c.scan-scanned.ensures c.in-None.is)
