pub mod BaseLaws
pub mod BodyShowLaws
mod EmbeddedLaws
pub mod FloatLaws
pub mod ItemTextLaws
pub mod ItemLaws
mod MarkLaws
mod MemoryLaws
pub mod MoveLaws
mod NextLaws
mod OpenLaws
pub mod PassedLaws
pub mod PlaceLaws
pub mod QuoteLaws
pub mod QuotedLaws
pub mod ShowLaws
pub mod StringShowLaws
