pub mod Model
pub mod Derivation
pub mod Splice
pub mod Walk
pub mod Replacement
