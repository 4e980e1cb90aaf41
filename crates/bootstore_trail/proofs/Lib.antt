pub mod TrailLemmas
pub mod OneInversePerName
