pub mod Computing
pub mod Examples
pub mod Laws
pub mod Reading
pub mod Steps
pub mod Writing
