pub mod ModernFields
pub mod ModernFieldsShown
pub mod ModernTokens
pub mod ModernTokensShown
pub mod ModernTrees
pub mod ModernTreesShown
pub mod ModernWords
pub mod ModernWordsShown
