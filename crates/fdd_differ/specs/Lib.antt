pub mod Differ
pub mod Frames
pub mod Unnamed
pub mod Witness
