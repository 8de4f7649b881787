pub mod Choosing
pub mod Deciding
pub mod Naming
pub mod Standing
pub mod Testing
pub mod Units
