pub mod Clearing
pub mod Parties
pub mod Removals
pub mod promises
