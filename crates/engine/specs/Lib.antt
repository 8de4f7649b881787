pub mod Previewing
pub mod Releasing
pub mod Studying
pub mod View
pub mod promises
