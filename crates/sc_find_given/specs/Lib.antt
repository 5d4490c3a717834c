pub mod Lookup
pub mod Keeping
pub mod Numbering
pub mod Waiting
