pub mod Equality
pub mod Faults
pub mod Histories
pub mod Rules
pub mod Traces
pub mod Values
