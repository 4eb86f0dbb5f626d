-- Lemmas that belong to no one function.
pub mod Candidates
pub mod Isolation
