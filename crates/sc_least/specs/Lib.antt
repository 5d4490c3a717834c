pub mod Bound
pub mod Full
