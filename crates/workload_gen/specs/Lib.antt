pub mod Words
pub mod Documents
pub mod Draws
pub mod Versions
pub mod Laws
pub mod Counts
