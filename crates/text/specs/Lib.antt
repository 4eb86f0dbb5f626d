pub mod Bytes
pub mod Fields
pub mod Form
pub mod Values
pub mod Parsed
pub mod Machine
pub mod Pieces
pub mod Facts
