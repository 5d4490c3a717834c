pub mod LineText
pub mod Rows
pub mod RunRows
