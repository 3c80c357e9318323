pub mod CourseLaws
pub mod RunLaws
pub mod StepLaws
