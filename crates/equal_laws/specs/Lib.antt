pub mod Equals
