pub mod LinePieces
pub mod RunViewShown
pub mod Recording
