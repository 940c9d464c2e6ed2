pub mod GroupLaws
pub mod PassLaws
