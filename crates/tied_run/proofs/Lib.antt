pub mod PlayLaws
pub mod TieLaws
