pub mod Effects
pub mod Pieces
