pub mod External
