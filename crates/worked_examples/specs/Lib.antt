pub mod Archives
pub mod Clash
pub mod School
pub mod Worlds
