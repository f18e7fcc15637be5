pub mod Posts
pub mod Rules
pub mod Reads
