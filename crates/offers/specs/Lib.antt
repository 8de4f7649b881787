pub mod Offer
pub mod Relevant
pub mod Supply
pub mod promises
