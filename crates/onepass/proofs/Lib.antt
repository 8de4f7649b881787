pub mod FieldLaws
pub mod FileLaws
pub mod HeaderLaws
pub mod RowLaws
