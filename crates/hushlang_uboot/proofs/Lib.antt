pub mod WordLemmas
pub mod LoopLemmas
pub mod NestLemmas
pub mod NestViewLemmas
