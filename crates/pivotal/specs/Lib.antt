pub mod Fed
pub mod Test
pub mod promises
