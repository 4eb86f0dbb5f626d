pub mod Rng
pub mod Facts
pub mod Steps
