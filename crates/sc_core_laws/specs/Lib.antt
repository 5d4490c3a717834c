pub mod LeavesInTime
pub mod TrueRows
