pub mod Editing
pub mod Reading
