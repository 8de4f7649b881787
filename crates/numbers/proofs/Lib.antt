pub mod Computing
pub mod InsertLaws
pub mod NumberLaws
pub mod SearchLaws
