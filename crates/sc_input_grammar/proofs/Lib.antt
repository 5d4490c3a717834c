pub mod Clipping
pub mod Lists
pub mod Numbers
pub mod Sides
pub mod Items
