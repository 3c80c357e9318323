pub mod FoundLaws
pub mod LineLaws
pub mod MendedLaws
pub mod SendLaws
pub mod SolvedLaws
pub mod SpellLaws
pub mod TextLaws
