pub mod OptionLaws
pub mod WordLaws
