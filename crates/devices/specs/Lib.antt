pub mod Devices
pub mod Listed
