pub mod Structure
pub mod Assignments
pub mod Tables
pub mod Marks
pub mod Versions
pub mod ClaimErrors
