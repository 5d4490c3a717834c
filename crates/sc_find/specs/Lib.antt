pub mod Models
pub mod Prepared
pub mod Answers
pub mod Search
pub mod Linked
pub mod Watching
pub mod Pieces
