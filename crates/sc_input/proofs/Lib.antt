pub mod Clipped
pub mod Judging
pub mod Stating
pub mod Laws
