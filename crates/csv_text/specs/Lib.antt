pub mod Bytes
pub mod Grammar
pub mod Records
pub mod promises
