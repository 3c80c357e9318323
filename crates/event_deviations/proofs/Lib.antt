pub mod Kit
pub mod Beside
pub mod Lookups
pub mod MarkLemmas
pub mod StartLemmas
pub mod EventLemmas
pub mod GroupLemmas
pub mod LinkLemmas
