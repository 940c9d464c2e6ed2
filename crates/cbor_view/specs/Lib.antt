pub mod FaultTexts
pub mod Faults
pub mod Held
pub mod Nexts
pub mod Pairs
pub mod Segments
pub mod Views
