pub mod MovingLaws
pub mod JoiningLaws
pub mod NamedLaws
pub mod ConcludingLaws
