pub mod Answers
pub mod Columns
pub mod FlatRows
pub mod Laying
pub mod Ranges
pub mod RowCells
