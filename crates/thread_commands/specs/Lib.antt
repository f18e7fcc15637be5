pub mod Run
pub mod Watch
