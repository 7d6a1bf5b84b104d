pub mod Reading
pub mod Showing
pub mod Unique
