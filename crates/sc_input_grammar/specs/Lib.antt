pub mod Behind
pub mod Items
pub mod Words
