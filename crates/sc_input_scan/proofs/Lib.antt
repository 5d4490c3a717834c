pub mod Scanning
pub mod DigitByDigit
