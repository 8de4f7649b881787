pub mod DecidingLaws
pub mod FormingLaws
pub mod GroupLaws
pub mod PreviewLaws
pub mod ReleaseLaws
pub mod StudyCells
pub mod StudyFits
pub mod StudyLaws
