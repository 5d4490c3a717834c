pub mod Once
pub mod Names
pub mod Listed
