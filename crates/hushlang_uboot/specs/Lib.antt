pub mod Gathered
pub mod GatheredShown
pub mod Nests
pub mod NestsShown
pub mod Pieces
pub mod ReadBytes
