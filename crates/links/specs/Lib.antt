pub mod promises
