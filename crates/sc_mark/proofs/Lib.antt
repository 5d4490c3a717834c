pub mod NarrowLaws
pub mod KnownLaws
pub mod AlikeLaws
pub mod AssigningLaws
pub mod ChangeLaws
pub mod TruthLaws
pub mod MarkingLaws
