pub mod Fields
pub mod Plain
pub mod Rows
pub mod Scan
