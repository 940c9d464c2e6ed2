pub mod DamageLaws
pub mod HeadLaws
pub mod ItemLaws
pub mod LooseLaws
pub mod StringLaws
