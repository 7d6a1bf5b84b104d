pub mod Finding
pub mod Theorems
pub mod Unique
