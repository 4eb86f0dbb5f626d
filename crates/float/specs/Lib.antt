pub mod Binary64
pub mod Root
pub mod Ln
pub mod Round
pub mod Meaning
pub mod Steps
pub mod Examples
