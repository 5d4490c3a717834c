pub mod TakingLaws
pub mod TermsLaws
pub mod LeftLaws
pub mod SearchLaws
