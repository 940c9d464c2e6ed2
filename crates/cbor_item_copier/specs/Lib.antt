pub mod Copying
pub mod Reading
pub mod Snapshots
pub mod Steps
pub mod Telling
