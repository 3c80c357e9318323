pub mod Fine
pub mod InForm
pub mod PackedLemmas
pub mod Present
pub mod SeenLaws
pub mod Spellable
pub mod Trimming
pub mod WellFormed
