pub mod DueLaws
pub mod FailureLaws
pub mod ItemRuns
pub mod ItemSteps
pub mod RemainingLaws
pub mod SkippingToldLaws
pub mod StartSteps
pub mod StrictnessLaws
