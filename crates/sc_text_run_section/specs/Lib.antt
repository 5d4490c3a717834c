pub mod Expected
pub mod Entries
pub mod Filling
pub mod Seen
pub mod OverSymbols
