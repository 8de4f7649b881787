pub mod Longest
pub mod Tidy
pub mod promises
