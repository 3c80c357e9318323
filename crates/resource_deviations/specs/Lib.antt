pub mod Filled
pub mod Rows
pub mod Sets
