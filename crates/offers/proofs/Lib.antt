pub mod CellLaws
pub mod OfferLaws
pub mod RangeLaws
pub mod SupplyLaws
