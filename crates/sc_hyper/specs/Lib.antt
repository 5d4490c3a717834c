pub mod Negatives
pub mod Candidates
pub mod Choosing
pub mod Ur
pub mod Making
