-- Lemmas that belong to no one function.
pub mod Digits
pub mod Past
