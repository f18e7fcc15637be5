mod Repeating
mod Scheduling
pub mod Simulating
mod Walks
