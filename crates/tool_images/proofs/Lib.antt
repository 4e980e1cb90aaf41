pub mod InputLemmas
pub mod PrintingLemmas
pub mod SettingLemmas
pub mod ImageLemmas
pub mod LineLemmas
pub mod SpareLemmas
pub mod DumpLemmas
mod DumpExamples
pub mod TextLemmas
pub mod NewImageLemmas
mod NewImageExamples
