pub mod Equiv
pub mod Compared
