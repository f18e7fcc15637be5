pub mod Hops
pub mod Laws
pub mod Orders
pub mod Advances
pub mod Walks
pub mod Ways
