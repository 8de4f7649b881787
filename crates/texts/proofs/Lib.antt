pub mod PartingLaws
pub mod SameLaws
