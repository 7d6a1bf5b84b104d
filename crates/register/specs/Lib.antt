pub mod Box
pub mod Laws
