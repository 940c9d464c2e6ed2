pub mod ItemRows
pub mod SequenceLaws
pub mod CountedLaws
pub mod SingleLaws
pub mod TableLaws
pub mod TakingLaws
pub mod RowLaws
pub mod LeaveLaws
mod RowTextLaws
pub mod PullLaws
pub mod LeftLaws
mod PartLaws
pub mod DumpLaws
pub mod WalkLaws
pub mod TitleLaws
pub mod RefusedLaws
mod KeyLaws
pub mod StringLaws
pub mod PieceLaws
pub mod StopLaws
pub mod CheckLaws
