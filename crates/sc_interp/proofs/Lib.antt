pub mod Assignments
pub mod Agreement
pub mod Width
pub mod Symbols
pub mod Structures
pub mod ClaimLaws
pub mod CanonicalMarks
pub mod WideMarks
