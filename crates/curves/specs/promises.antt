pub mod Keys
pub mod Placing
pub mod Pricing
