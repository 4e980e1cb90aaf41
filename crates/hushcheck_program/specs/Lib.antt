pub mod CommandLine
pub mod Asked
pub mod CommandAnswers
pub mod Faults
pub mod Checking
pub mod Shown
pub mod Doing
pub mod Statuses
