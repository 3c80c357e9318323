pub mod CostLaws
pub mod LineLaws
pub mod OpeningLaws
pub mod SessionLaws
pub mod WakingLaws
