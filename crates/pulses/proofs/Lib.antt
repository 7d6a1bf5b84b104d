pub mod Apart
pub mod Bits
pub mod Keeping
pub mod Passing
pub mod Ticks
pub mod Unique
