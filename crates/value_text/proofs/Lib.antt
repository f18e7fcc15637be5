mod Decimals
mod Macs
pub mod Puts
pub mod SortLaws
pub mod TextLaws
