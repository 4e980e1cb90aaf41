pub mod Builtins
pub mod BuiltinsShown
