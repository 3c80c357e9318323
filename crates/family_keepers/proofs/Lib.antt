pub mod TakeLaws
pub mod WatchLaws
