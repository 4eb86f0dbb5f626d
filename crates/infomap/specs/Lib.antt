pub mod Infomap
pub mod Steps
pub mod Facts
