pub mod Counting
pub mod Becoming
pub mod Orienting
pub mod Fitting
pub mod Finding
pub mod Standing
pub mod Deleting
pub mod Rewriting
