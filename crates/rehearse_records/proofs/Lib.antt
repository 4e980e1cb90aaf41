pub mod EscapeLemmas
pub mod RecordParts
mod SavedExamples
