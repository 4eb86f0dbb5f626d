pub mod Lines
pub mod Written
pub mod Steps
pub mod Facts
