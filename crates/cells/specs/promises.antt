pub mod Letters
pub mod Views
