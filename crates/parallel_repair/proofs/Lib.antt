pub mod FateLemmas
pub mod FillLemmas
pub mod JobLemmas
pub mod ListedLemmas
pub mod RankLemmas
pub mod SolvedLemmas
pub mod TurnLemmas
pub mod WorkLemmas
