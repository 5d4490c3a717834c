pub mod Order
pub mod Cells
pub mod Ground
pub mod Listing
