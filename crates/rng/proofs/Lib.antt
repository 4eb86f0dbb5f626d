-- Lemmas that belong to no one function.
pub mod Visits
pub mod Permutation
pub mod Counts
