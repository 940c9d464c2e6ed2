pub mod Depth
pub mod Fault
pub mod Value
