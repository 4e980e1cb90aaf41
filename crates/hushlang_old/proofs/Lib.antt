pub mod DefaultLemmas
pub mod OldFieldLemmas
pub mod BuildingLemmas
pub mod OldTreeLemmas
mod OldFieldsExamples
mod OldTreesExamples
mod PlainExitLemmas
