pub mod Computing
pub mod SupplyLaws
pub mod UnitLaws
