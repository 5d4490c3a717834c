pub mod Marked
pub mod Known
pub mod Changes
pub mod Marking
