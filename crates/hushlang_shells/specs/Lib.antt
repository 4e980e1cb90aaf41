pub mod TextsShown
pub mod TreesByShell
