pub mod FilledLemmas
pub mod TableLemmas
