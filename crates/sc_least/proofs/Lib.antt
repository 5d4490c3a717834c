pub mod ExchangeLaws
pub mod PermutedLaws
pub mod BoundLaws
pub mod AboveLaws
