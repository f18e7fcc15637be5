pub mod Asked
pub mod Comparisons
