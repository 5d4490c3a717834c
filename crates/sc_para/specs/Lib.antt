pub mod Spots
pub mod Subterms
pub mod Pairs
pub mod Conclusion
