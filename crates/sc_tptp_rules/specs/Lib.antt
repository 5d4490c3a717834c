pub mod CnfTokens
pub mod Placing
pub mod CnfGrammar
pub mod CnfStating
pub mod CnfLimits
pub mod CnfReading
