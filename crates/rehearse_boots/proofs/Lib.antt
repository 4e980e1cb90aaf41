pub mod BootLemmas
pub mod WayLemmas
pub mod FoundLemmas
pub mod ToldLemmas
pub mod SetLemmas
pub mod MemberLemmas
pub mod LeadingLemmas
pub mod AnswerLemmas
mod BootExamples
mod LeadingExamples
