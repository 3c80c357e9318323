mod GivenLaws
mod NumberLaws
pub mod ReadLaws
pub mod TableLaws
pub mod ValueLemmas
