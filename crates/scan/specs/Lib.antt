pub mod Scan
pub mod Steps
