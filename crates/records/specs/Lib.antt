pub mod Records
pub mod StepsJudge
pub mod Steps
