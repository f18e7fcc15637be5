pub mod Audit
pub mod Lines
pub mod Told
