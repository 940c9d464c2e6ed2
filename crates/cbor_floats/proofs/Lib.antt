pub mod FloatLaws
