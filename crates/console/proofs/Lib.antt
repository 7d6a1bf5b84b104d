pub mod Starting
pub mod Feeding
pub mod Stepping
pub mod Law
