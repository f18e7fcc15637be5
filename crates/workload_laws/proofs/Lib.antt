mod Callers
mod Copies
mod Counts
mod Emitted
mod Faults
mod Named
mod Ports
pub mod Workloads
pub mod Sent
