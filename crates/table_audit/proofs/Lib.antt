pub mod Reports
pub mod Parts
pub mod Keys
pub mod Draining
pub mod Kept
pub mod Following
