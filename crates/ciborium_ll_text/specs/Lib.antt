pub mod Cuts
pub mod Digits
pub mod Numbers
pub mod Rows
pub mod States
pub mod Text
pub mod Windows
