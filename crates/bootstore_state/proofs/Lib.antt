mod StoreExamples
pub mod TableLemmas
pub mod PresentLemmas
pub mod KeptScripts
pub mod StateLemmas
pub mod LogLemmas
mod DeviceLogLemmas
