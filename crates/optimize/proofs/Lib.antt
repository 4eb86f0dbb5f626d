-- Lemmas that belong to no one function.
pub mod Passes
pub mod Numbers
pub mod Rounds
pub mod Start
pub mod Ends
