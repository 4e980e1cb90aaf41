pub mod Outputs
pub mod Over
pub mod Sink
pub mod ByteArrayShown
pub mod Paging
