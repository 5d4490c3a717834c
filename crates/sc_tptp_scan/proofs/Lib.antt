pub mod Scanning
pub mod Placed
