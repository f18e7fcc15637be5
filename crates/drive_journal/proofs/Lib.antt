mod Counting
mod Growing
mod Reading
mod Echoing
mod Resting
mod Greeting
mod Ending
pub mod Losing
