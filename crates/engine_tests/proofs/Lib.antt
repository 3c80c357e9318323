mod Claimed
pub mod FreshLaws
pub mod MatchingLemmas
pub mod PlaceLaws
pub mod SameLaws
