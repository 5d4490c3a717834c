pub mod Clipped
pub mod Numerals
