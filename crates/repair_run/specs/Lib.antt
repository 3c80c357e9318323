pub mod Laws
pub mod Lines
pub mod Placed
pub mod Repairs
pub mod Solves
