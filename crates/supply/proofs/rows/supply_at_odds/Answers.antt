-- No key has a row yet. Assumes nothing.
use Rattle.links.proofs.LinkLaws.{unlinked}
use native.Mathlib.Omega.{arith}
use Rattle.supply.proofs.rows.supply_at_odds.Goals as goal

pub first_at_odds-requires : goal.first_at_odds-requires
first_at_odds-requires c = record { supply_width_in_bounds = c.requires; unit_keys_in_bounds = omega arith; unlinked = unlinked 1024 }
