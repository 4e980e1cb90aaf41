pub mod ArgumentLemmas
pub mod MadeLemmas
pub mod EntryLemmas
pub mod ExpectedLemmas
pub mod OneSubcommand
pub mod AnswerLemmas
pub mod CommandLineExamples
mod PrintExamples
mod SetExamples
mod RehearseExamples
mod EndingsExamples
pub mod BootsExamples
mod ExpectExamples
mod CausesExamples
mod TextExamples
mod ScriptExamples
mod TakingExamples
mod ImageExamples
mod InspectExamples
pub mod CalledLemmas
mod CalledExamples
mod LongForms
