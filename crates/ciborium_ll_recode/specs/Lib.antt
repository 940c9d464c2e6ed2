pub mod Exactly
pub mod Recoding
pub mod RecodingTold
pub mod Sides
