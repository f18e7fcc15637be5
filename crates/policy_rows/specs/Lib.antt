pub mod Limits
pub mod Means
pub mod Numbers
