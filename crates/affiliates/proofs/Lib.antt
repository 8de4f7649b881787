pub mod ChainLaws
pub mod Computing
pub mod GroupLaws
pub mod GroupingLaws
pub mod LayingLaws
pub mod WalkLaws
