pub mod Starred
pub mod Empty
pub mod Lost
