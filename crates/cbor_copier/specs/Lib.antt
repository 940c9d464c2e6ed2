pub mod Copying
pub mod Fronts
pub mod Plain
pub mod Reading
pub mod Snapshots
pub mod Spots
pub mod Steps
pub mod Telling
