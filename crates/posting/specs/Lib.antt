pub mod Sheet
pub mod Posted
pub mod Meaning
pub mod Steps
pub mod Examples
