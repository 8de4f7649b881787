pub mod Asking
pub mod Committing
pub mod Forming
pub mod Places
