pub mod Choosing
pub mod Cost
pub mod Exposure
pub mod Right
pub mod Schedules
pub mod promises
