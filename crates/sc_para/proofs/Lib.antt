pub mod WalkLaws
pub mod PairSites
pub mod ListingLaws
pub mod ReplacingLaws
pub mod ConclusionLaws
pub mod ParaLaws
pub mod FixtureLaws
