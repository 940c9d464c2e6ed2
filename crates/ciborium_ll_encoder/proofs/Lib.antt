pub mod EncodingLaws
pub mod PieceLaws
pub mod Writes
