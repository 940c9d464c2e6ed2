pub mod Prompt
pub mod Raw
pub mod Restoring
