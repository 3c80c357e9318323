pub mod Budgets
pub mod Owed
pub mod Served
pub mod Small
pub mod Standing
