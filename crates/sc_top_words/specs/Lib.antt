pub mod Options
pub mod Words
pub mod Taking
pub mod Reading
