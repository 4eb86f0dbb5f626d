pub mod Codelength
pub mod Steps
