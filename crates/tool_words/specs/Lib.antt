pub mod Arguments
pub mod CommandLine
pub mod Made
pub mod Answered
pub mod Numbers
pub mod Asked
pub mod CommandAnswers
pub mod Called
