pub mod Backwards
pub mod Sentences
pub mod Standing
pub mod OneToken
pub mod LookUps
pub mod Faults
pub mod Keeping
pub mod Going
