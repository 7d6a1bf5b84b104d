pub mod Ring
pub mod Relays
pub mod Due
pub mod Laws
pub mod Time
pub mod Meanwhile
