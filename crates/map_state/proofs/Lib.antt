-- Lemmas that belong to no one function.
pub mod Rows
pub mod Chains
pub mod Loops
pub mod Leaders
pub mod Groups
pub mod Moves
