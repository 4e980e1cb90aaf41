pub mod MemoryLemmas
pub mod ToldLemmas
pub mod OrderLemmas
mod FileExamples
