pub mod ReadRows
