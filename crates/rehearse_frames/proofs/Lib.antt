pub mod NoneBegun
pub mod SameAccesses
pub mod MoveAccessLemmas
pub mod FramesAlike
pub mod MovesAlike
pub mod EnoughKeys
pub mod EnoughSteps
pub mod OtherSteps
pub mod LoopLemmas
pub mod MovesOver
pub mod LowestFrames
mod AboveExamples
mod MoveExamples
