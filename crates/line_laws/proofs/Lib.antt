pub mod Cut
pub mod Dropping
pub mod Fields
pub mod Numbers
pub mod Telling
pub mod Values
