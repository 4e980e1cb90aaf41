pub mod NamedFiles
pub mod BoardFiles
