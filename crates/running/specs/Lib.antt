pub mod View
pub mod promises
