pub mod Rising
pub mod Search
pub mod Text
pub mod promises
