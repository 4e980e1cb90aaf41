pub mod Inverse
pub mod Trail
