pub mod CheckLaws
pub mod DayCellLaws
pub mod DayInLaws
pub mod ExportLaws
pub mod LayingLaws
pub mod PreviewLaws
pub mod TestLaws
pub mod TidyLaws
