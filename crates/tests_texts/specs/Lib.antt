pub mod PrintedText
