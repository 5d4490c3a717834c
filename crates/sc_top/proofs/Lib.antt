pub mod AnswerLaws
pub mod ProveLaws
pub mod ModelAnswers
pub mod BenchLaws
pub mod ToldLaws
