pub mod TableAt
