pub mod Alone
pub mod Curves
pub mod Kept
pub mod Market
pub mod Parents
pub mod Rules
