-- Constraint and supply, then what comes behind them. Assumes nothing.
use mathlib.Core.Path.{refl}
use native.Mathlib.Omega.{arith}
use Rattle.std.proofs.lemmas.Result.{err_from_is_err_and}
use Rattle.checking.proofs.MarketLaws as market
use Rattle.checking.proofs.Rooms.{supply-room}
use Rattle.engine.proofs.DecidingLaws.{market-refused, market-decided}
use Rattle.engine.proofs.FormingLaws.{formed-units}
use Rattle.engine.proofs.StudyCells.{market-none, market-constraint, market-rows, market-cells, market-units}
use Rattle.engine.proofs.day.Day.decide_files.Goals as goal

pub check_market-requires : goal.check_market-requires
check_market-requires c = record { room_in_bounds = omega (arith, supply-room); most_units_in_bounds = omega arith }

pub decide_groups-requires : goal.decide_groups-requires
decide_groups-requires c =
    let pre = c.requires in let market = c.check_market.ensures in let told = c.in_ok-market.was in
    record { units_value = formed-units _ pre.self_value; market_cells = market-cells _ _ _ _ market _ told (omega arith); units_of = market-units _ _ _ _ market _ told (omega arith); answer_width_in_bounds = pre.answer_width_in_bounds }

pub returns-in_err-market : goal.returns-in_err-market
returns-in_err-market c =
    let p = err_from_is_err_and c.from_residual.result c.from_residual.ensures.1 in
    rw (p.1, p.2) (market-refused _ _ _ _ c.requires.self_value _ (market.market-refused _ _ _ _ c.check_market.ensures _ _ _ c.in_err-market.was) refl)

pub returns : goal.returns
returns c = let market = c.check_market.ensures in let told = c.in_ok-market.was in market-decided _ _ _ _ c.requires.self_value (market-none _ _ _ _ market _ told) _ (market-constraint _ _ _ _ market _ told) _ (market-rows _ _ _ _ market _ told) c.decide_groups.ensures
