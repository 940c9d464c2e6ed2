pub mod NestLaws
pub mod OpenLaws
pub mod ParseLaws
pub mod SearchLaws
pub mod SegmentLaws
