pub mod Bindings
pub mod Search
pub mod Equations
pub mod Unifiers
pub mod Limits
pub mod Matching
pub mod Joint
