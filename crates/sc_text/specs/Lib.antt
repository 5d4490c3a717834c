pub mod Answer
pub mod RunAnswer
