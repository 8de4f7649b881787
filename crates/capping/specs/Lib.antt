pub mod Days
pub mod Exports
pub mod Fed
pub mod promises
