pub mod AnswerLaws
pub mod OneLaws
pub mod MatchLaws
pub mod NeverLaws
pub mod ThereLaws
pub mod ConstructLaws
pub mod OutcomeLaws
