pub mod RunValue
pub mod ModelText
pub mod RunText
pub mod RowWords
pub mod VersionGrammar
pub mod RowGrammar
pub mod RunSection
pub mod RunReading
