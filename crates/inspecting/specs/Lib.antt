pub mod Report
pub mod Guesses
pub mod CopiesShown
pub mod Inspecting
