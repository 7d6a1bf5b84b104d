pub mod Halves
pub mod Rooms
