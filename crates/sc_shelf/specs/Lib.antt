pub mod Entries
pub mod State
pub mod Rule
pub mod Kept
pub mod Looks
