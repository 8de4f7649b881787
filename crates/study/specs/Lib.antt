pub mod FreshStudy
