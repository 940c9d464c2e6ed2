pub mod Verdicts
pub mod Checking
pub mod Deterministic
pub mod Lines
pub mod Parts
