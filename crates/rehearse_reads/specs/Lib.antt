pub mod Keys
pub mod Accesses
pub mod Alike
pub mod Laws
