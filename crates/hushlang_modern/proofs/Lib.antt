pub mod BuildingLemmas
pub mod FieldLemmas
mod ModernFieldsExamples
mod ModernTokensExamples
pub mod ModernTreeLemmas
mod ModernTreesExamples
