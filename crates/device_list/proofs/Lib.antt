pub mod DeviceLemmas
mod DeviceListExamples
mod KindExamples
mod CalledExamples
mod CallExamples
mod FileExamples
mod ImportExamples
mod OrExamples
mod SavingExamples
mod FilledExamples
pub mod MarkLemmas
pub mod ImportLemmas
pub mod LineLemmas
pub mod KindsOfLines
pub mod UnusedKinds
pub mod JoinedLines
pub mod MapLemmas
pub mod PlaceLemmas
pub mod QuietNames
pub mod PlainLists
pub mod SteadyLemmas
pub mod WordLemmas
pub mod QuoteLemmas
pub mod FileLemmas
pub mod FurtherLemmas
pub mod FilledLemmas
pub mod SavingLemmas
