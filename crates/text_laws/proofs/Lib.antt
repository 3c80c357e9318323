pub mod MatchedLaws
pub mod PlacedLaws
pub mod ReadLaws
pub mod RepairedLaws
pub mod ResolvedLaws
pub mod StateLaws
