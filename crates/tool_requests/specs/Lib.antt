pub mod Choice
pub mod Line
pub mod Number
pub mod Request
pub mod Word
