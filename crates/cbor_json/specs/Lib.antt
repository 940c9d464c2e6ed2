pub mod ItemStops
pub mod ItemTexts
pub mod JsonTexts
pub mod Reading
pub mod Roles
pub mod Scalars
pub mod StringTexts
pub mod StringWrites
