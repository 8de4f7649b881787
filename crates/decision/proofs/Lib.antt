pub mod ChoosingLaws
pub mod DecidedRows
pub mod LayingLaws
pub mod NamingLaws
pub mod StandingLaws
pub mod TestingLaws
pub mod UnitLaws
