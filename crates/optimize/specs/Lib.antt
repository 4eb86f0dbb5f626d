pub mod Rounds
pub mod Steps
pub mod Examples
