pub mod ListLaws
pub mod PartsLaws
pub mod LimitLaws
pub mod FollowedLaws
pub mod FaultLaws
pub mod SolutionLaws
pub mod SpellingLaws
