pub mod Parts
pub mod Names
pub mod Formulas
pub mod Limits
pub mod Reached
