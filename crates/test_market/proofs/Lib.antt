pub mod PartyCount
pub mod ReadCells
