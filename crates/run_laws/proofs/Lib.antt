pub mod Oldest
pub mod Copies
pub mod Halting
pub mod Room
pub mod Failing
