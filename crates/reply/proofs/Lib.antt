pub mod Columns
pub mod FitWithin
pub mod AnswerText
pub mod Room
