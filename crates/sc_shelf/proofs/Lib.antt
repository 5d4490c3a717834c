pub mod Crossing
pub mod LookLaws
pub mod Fronts
pub mod EntryLaws
pub mod Steps
pub mod Last
