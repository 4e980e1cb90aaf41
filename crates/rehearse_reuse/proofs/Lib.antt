pub mod LogLemmas
pub mod ReusedSummaries
pub mod LowestFrames
