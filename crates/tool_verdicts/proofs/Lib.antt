pub mod AheadLaws
pub mod DeterministicLaws
pub mod FoundLaws
pub mod LineLaws
pub mod PartLaws
