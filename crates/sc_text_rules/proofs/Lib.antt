pub mod TextLaws
pub mod FewLines
pub mod PrintingExamples
pub mod ProofExamples
pub mod ProofFaults
