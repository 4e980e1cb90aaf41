pub mod AnswerLemmas
pub mod CheckLemmas
pub mod StatusLemmas
mod NamesExamples
