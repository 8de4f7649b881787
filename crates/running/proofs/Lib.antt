pub mod AskingLaws
pub mod CommitLaws
pub mod FormingLaws
pub mod PlaceLaws
pub mod ViewLaws
