pub mod Channels
pub mod Sending
pub mod Unique
pub mod Writing
