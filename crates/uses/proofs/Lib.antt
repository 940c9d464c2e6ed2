mod CoseLaws
mod CoseViewLaws
pub mod MapLaws
mod PairLaws
pub mod SettingsLaws
mod ShortestLaws
mod Steps
mod StreamLaws
mod SumLaws
mod TextLaws
mod WebauthnLaws
