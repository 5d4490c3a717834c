pub mod Left
pub mod Standing
