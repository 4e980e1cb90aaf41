pub mod Defaults
pub mod OldFields
pub mod OldFieldsShown
pub mod OldTokens
pub mod OldTokensShown
pub mod OldTrees
pub mod OldTreesShown
