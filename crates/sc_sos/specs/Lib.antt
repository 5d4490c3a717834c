pub mod Waiting
pub mod LookUp
