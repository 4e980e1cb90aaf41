pub mod UsedLemmas
pub mod GuessLemmas
mod ReportExamples
mod GuessExamples
