pub mod Affiliates
pub mod Chain
pub mod promises
