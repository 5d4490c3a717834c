pub mod Counted
pub mod Numbers
pub mod Symbols
pub mod Positions
pub mod Limits
pub mod Reached
pub mod Query
