mod OutcomeExamples
mod StateExamples
