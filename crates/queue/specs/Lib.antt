pub mod Listed
pub mod Meanwhile
