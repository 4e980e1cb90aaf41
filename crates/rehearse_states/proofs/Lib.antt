pub mod SideBySide
pub mod EqualLemmas
pub mod TreeEqualLemmas
pub mod RowsOfRuns
pub mod SaturatedCountLemmas
pub mod NodeLemmas
mod EndingsExamples
mod FlowExamples
mod PlaceNumberExamples
pub mod RowLemmas
pub mod RepeatLemmas
pub mod SumLemmas
pub mod EndingLineLemmas
pub mod NumberedNodes
mod PlaceNumberLemmas
