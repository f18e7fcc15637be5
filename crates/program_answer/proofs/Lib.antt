pub mod FewNamed
pub mod LineLaws
pub mod Lists
pub mod Pieces
pub mod Soundness
pub mod Starting
pub mod Stopping
