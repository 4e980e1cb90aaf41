pub mod Causes
pub mod Numbers
pub mod Keeping
pub mod CauseLines
pub mod TellingCauses
pub mod Laws
