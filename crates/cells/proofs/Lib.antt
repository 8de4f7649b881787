pub mod RowStores
pub mod RowViews
