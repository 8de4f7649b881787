pub mod Curves
pub mod promises
