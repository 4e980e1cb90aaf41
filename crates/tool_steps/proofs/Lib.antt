pub mod PlaceLemmas
pub mod ReadingLemmas
pub mod CountLemmas
pub mod OriginLemmas
pub mod NewImageFileLemmas
pub mod OneCopyLemmas
pub mod PrintLemmas
pub mod SpareLemmas
pub mod SetLemmas
pub mod InputLemmas
pub mod RunLemmas
pub mod ScriptLemmas
pub mod SourceLemmas
mod InputExamples
mod OverlapExamples
