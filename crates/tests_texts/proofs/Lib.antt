pub mod PrintedLemmas
mod PrintedExamples
