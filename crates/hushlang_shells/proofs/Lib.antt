pub mod FileEndLemmas
pub mod TreeByShellLemmas
mod TreesByShellExamples
