-- Theorems on the grouping run.
pub mod Ways
pub mod Quiet
pub mod ScanAnswers
pub mod Joined
pub mod KeptTrial
pub mod LastRound
pub mod Marks
