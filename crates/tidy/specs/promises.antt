pub mod Copying
pub mod Tidies
