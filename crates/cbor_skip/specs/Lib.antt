pub mod Due
pub mod Failures
pub mod ItemFaults
pub mod Skipping
pub mod SkippingTold
pub mod SkipTexts
pub mod Types
pub use Rattle.ciborium_ll_grammar.specs.Remaining
