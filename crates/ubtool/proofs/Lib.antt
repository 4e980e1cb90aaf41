pub mod ImageRehearsalLemmas
pub mod InspectLemmas
pub mod GivenLemmas
pub mod BeginningLemmas
pub mod TurnLemmas
pub mod EndingsTurnLemmas
pub mod CausesTurnLemmas
pub mod ImageEndingsLemmas
pub mod ImageCausesLemmas
pub mod ImageBootsLemmas
pub mod KeptNamesLemmas
pub mod AskLemmas
pub mod RehearseLemmas
pub mod EndingsLemmas
pub mod CausesLemmas
pub mod BootsLemmas
mod BeginningExamples
mod BootsExamples
mod LockExamples
mod TurnExamples
