pub mod Sites
pub mod ByRule
