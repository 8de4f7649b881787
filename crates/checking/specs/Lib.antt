pub mod Files
pub mod promises
