pub mod UnescapedLaws
mod WriteLaws
