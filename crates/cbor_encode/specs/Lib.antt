pub mod Adding
pub mod Chunks
pub mod Left
pub mod NotationTexts
pub mod Places
pub mod Scalars
pub mod Sequences
