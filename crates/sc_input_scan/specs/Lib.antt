pub mod Told
pub mod Rest
pub mod Numeral
