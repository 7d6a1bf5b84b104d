pub mod Outputs
pub mod Place
pub mod Unique
