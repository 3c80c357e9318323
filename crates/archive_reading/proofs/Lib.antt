pub mod FewLemmas
pub mod OnlyLemmas
pub mod ReadingLemmas
pub mod ReadyLemmas
pub mod StartLemmas
