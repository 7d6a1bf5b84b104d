pub mod Writers
pub mod Writing
