pub mod RunExamples
mod ReadingExamples
mod RunFaults
