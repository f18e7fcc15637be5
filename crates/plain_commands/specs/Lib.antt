pub mod Generate
pub mod Rules
pub mod Schedules
pub mod Simulate
pub mod Told
pub mod Trace
