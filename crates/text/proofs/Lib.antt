pub mod ResultLemmas
pub mod CutLemmas
pub mod HexLemmas
pub mod JoinedWords
pub mod LineLemmas
pub mod SearchLemmas
pub mod WordLemmas
pub mod SpacedWords
mod EscapeExamples
