pub mod Telling
pub mod Working
pub mod Works
pub mod Noting
pub mod Sessions
pub mod Cycles
