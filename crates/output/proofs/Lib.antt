pub mod SinkLemmas
pub mod PageLemmas
