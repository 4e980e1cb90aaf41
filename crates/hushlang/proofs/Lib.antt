pub mod TokenMachine
pub mod ViewLemmas
mod GrammarExamples
pub mod SpellingLemmas
pub mod SpellingOfEachText
pub mod WordPartLemmas
pub mod WordsAtAnyPlace
pub mod TextFrontLemmas
pub mod WordPieceLemmas
pub mod OrderOfTokens
pub mod PlainWordLemmas
pub mod CommandRuleLemmas
pub mod RestLengthLemmas
pub mod DerivedTreesAreRead
pub mod CommandsInBlocks
pub mod ReadTreesAreDerived
pub mod NameAndAssignmentLemmas
pub mod ReservedWordLemmas
pub mod SkippedTokenLemmas
pub mod AfterCompoundLemmas
pub mod WordLists
pub mod ListRuleLemmas
pub mod FrameEndLemmas
pub mod ReaderAsMachine
pub mod RefusalPlaceLemmas
pub mod BlockEndLemmas
pub mod Productions
pub mod LexicalFaultLemmas
pub mod ParserAnswerLemmas
mod ScriptExamples
pub mod NextToken
pub mod ExpandLemmas
pub mod KnownFieldLemmas
pub mod Shortening
pub mod ShortValues
mod ExpansionExamples
pub mod TreeLemmas
pub mod ProperLemmas
