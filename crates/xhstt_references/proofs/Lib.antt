pub mod FirstLemmas
pub mod RepeatsLemmas
pub mod SolutionsLemmas
pub mod ToldLemmas
mod FollowedLemmas
mod NamesLemmas
pub mod UnknownLemmas
