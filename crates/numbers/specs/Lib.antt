pub mod Numbers
pub mod promises
