pub mod Fitting
pub mod Found
pub mod Lines
pub mod Texts
