pub mod CnfExamples
