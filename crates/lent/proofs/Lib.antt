pub mod Losing
pub mod Places
pub mod Unique
