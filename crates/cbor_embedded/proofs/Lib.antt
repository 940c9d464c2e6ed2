pub mod EmbeddedLaws
