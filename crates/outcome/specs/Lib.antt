pub mod Answer
pub mod Day
pub mod Decision
pub mod Layout
pub mod Preview
pub mod Right
pub mod Study
