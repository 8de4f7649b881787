pub mod Supply
pub mod promises
