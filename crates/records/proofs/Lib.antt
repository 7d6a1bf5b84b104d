pub mod Unique
pub mod Views
