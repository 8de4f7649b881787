-- What checking constraint and supply together promises, and what checking schedules beside them goes by. Assumes nothing.
use Rattle.std.specs.Prelude.{ℕ, ◌≤◌, ◌≡◌, List, length, Err, None, Ok, Option, Result, Some}
use Rattle.base.specs.Search.{first_of}
use Rattle.hours.specs.Hours.{last_hour}
use Rattle.tables.specs.declared.files.Refusal.{Refusal}
use Rattle.supply.specs.Supply.{units}
use Rattle.checking.specs.promises.Alone.{SupplyKept}
use Rattle.checking.specs.Files.{constraint_of, supply_of, market_refusals}
use Rattle.checking.specs.declared.market.Market.{Market}

-- the constraint's row, and how many rows and units supply has
abbrev pub market_of : List ℕ → List ℕ → Market
market_of c s =
    record { constraint = constraint_of c; rows = length (supply_of s); units = length (units (supply_of s)) }

abbrev pub market_unless : Option Refusal → List ℕ → List ℕ → Result Market Refusal
market_unless None c s = Ok (market_of c s)
market_unless (Some r) c s = Err r

pub record MarketChecked (c s cells us : List ℕ) (r : Result Market Refusal) : Type 0 where
  pub answers : r ≡ market_unless (first_of (market_refusals c s)) c s
  pub kept : first_of (market_refusals c s) ≡ None → SupplyKept s cells us

-- a market whose hour is one of the day, and whose units are listed in a run
pub record MarketFits (m : Market) (us : List ℕ) : Type 0 where
  pub hour : m.constraint.hour ≤ last_hour
  pub listed : m.units ≤ length us
