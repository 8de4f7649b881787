pub mod EnoughRoom
pub mod HowLong
pub mod LongestLaws
pub mod RunCosts
pub mod StudyLongest
