pub mod Computing
pub mod OddsLaws
pub mod RunLaws
pub mod ScheduleLaws
pub mod SearchLaws
