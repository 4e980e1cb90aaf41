pub mod ComputedLemmas
pub mod VerdictLemmas
pub mod UBootTestLemmas
mod VerdictExamples
mod UBootExitLemmas
mod UBootTestExamples
mod ComputedExamples
