pub mod DigitLaws
pub mod OrderLaws
pub mod CellLaws
pub mod InstanceLaws
pub mod CountLaws
