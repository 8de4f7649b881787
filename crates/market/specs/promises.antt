pub mod Narrowing
pub mod Parts
