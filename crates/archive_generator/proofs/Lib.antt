pub mod ListLemmas
pub mod SlotLaws
pub mod Spellable
pub mod WellFormed
