pub mod Counting
pub mod BookChanges
pub mod Fairness
pub mod InTime
pub mod BoundMet
pub mod RowsTrue
