pub mod SliceLaws
pub mod WriteLaws
