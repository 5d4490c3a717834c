pub mod PlaceLaws
pub mod LookupLaws
pub mod WaitingLaws
pub mod GivenLaws
pub mod DigitLaws
pub mod NumberLaws
pub mod KeptLaws
