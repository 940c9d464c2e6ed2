pub mod Discards
pub mod Slices
pub mod Transfer
pub mod Writes
