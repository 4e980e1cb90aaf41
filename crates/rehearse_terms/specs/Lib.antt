pub mod Outcomes
pub mod State
pub mod Bounds
pub mod Asking
pub mod WantedShown
