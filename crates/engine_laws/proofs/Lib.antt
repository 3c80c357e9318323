pub mod BudgetLaws
pub mod OwedLaws
pub mod ServedLaws
pub mod StandingLaws
