pub mod OneRow
pub mod Ranges
pub mod Steps
