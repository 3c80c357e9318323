pub mod DemandLemmas
pub mod MonitorsLemmas
pub mod PlainIds
