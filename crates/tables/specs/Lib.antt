pub mod Reading
pub mod Refusals
pub mod Rows
pub mod Table
pub mod Values
pub mod promises
