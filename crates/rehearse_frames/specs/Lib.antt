pub mod ToCome
pub mod MoveAccesses
pub mod AlikeFutures
pub mod KeysToCome
pub mod Loops
pub mod Above
pub mod Laws
