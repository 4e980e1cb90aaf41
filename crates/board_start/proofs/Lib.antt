pub mod LineLemmas
pub mod EntryLemmas
pub mod ChoiceLemmas
pub mod OtherLists
pub mod CounterLemmas
pub mod LimitLemmas
mod StartExamples
mod CounterExamples
