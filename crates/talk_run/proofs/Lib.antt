pub mod BetweenLemmas
pub mod PlayLaws
pub mod ReadLemmas
pub mod ScriptLaw
pub mod SentLaws
