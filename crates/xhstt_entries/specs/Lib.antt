pub mod Spelled
pub mod Texts
pub mod Renumbered
pub mod Examples
