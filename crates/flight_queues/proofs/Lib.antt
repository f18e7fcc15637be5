pub mod Lists
pub mod Rising
pub mod Finding
pub mod Merging
pub mod Lending
pub mod Keeping
