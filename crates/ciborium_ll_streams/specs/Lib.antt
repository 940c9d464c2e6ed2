pub mod FaultTexts
pub mod Streams
