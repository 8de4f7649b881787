pub mod LineLaws
pub mod LoopLaws
pub mod WriteLaws
