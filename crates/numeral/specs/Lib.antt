pub mod Grammar
pub mod Numeral
