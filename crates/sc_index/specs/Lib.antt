pub mod Flat
pub mod Nodes
pub mod Meeting
pub mod Walking
pub mod Entries
