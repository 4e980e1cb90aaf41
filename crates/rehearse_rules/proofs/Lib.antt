pub mod ChoiceTreeLemmas
pub mod NextRunLemmas
pub mod TakenOutcomes
pub mod UnexpectedAnswers
pub mod ChoicesAsked
pub mod TaskChoices
pub mod StepLemmas
pub mod FewFailures
pub mod OrderOfWords
pub mod GrowingSteps
pub mod CompoundLemmas
pub mod BoundLemmas
pub mod Pages
pub mod WholeRecordLemmas
pub mod RecordLines
pub mod ResumedLemmas
pub mod ExampleRehearsals
pub mod GivenRuns
pub mod FieldLemmas
pub mod PlainRuns
pub mod KeptLogs
pub mod NeedsLemmas
pub mod MetNeeds
pub mod AskedLogs
pub mod StayingAnswers
mod ToldExamples
mod RunsExamples
mod ChoosingExamples
