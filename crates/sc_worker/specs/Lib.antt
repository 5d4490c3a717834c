pub mod Plans
pub mod FinderList
pub mod Choosing
pub mod Trying
pub mod Present
pub mod Keeping
pub mod Finding
pub mod Underway
