-- The cells of a fresh day. Assumes nothing.
use Rattle.capping.proofs.DayCellLaws.{fresh-laid}
use Rattle.capping.proofs.day_calls.capping_day_fresh.Goals as goal

pub returns : goal.returns
returns c = let both = fresh-laid _ _ c.fresh.ensures.result_value c.lay_down.ensures in
    record { day_after = both.0; day_after_2 = both.1 }
