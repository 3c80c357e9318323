-- What a handle owns, what it keeps, and what each call makes of it.
pub mod Calls
pub mod Halves
pub mod Holding
pub mod Kept
