pub mod Pulses
pub mod Passing
