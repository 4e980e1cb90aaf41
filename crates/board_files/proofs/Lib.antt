mod NamedFilesExamples
pub mod FileLemmas
pub mod BoardLemmas
