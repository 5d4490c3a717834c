pub mod Sequences
pub mod TermsOfNames
pub mod Bracketed
pub mod LinesInTurn
pub mod SectionEnds
pub mod PrefixOfSteps
pub mod PrefixOfSections
