pub mod BenchLaws
pub mod FitLaws
