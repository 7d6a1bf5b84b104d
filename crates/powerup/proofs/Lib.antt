pub mod PowerUp
pub mod Unique
