pub mod Distance
pub mod Limit
pub mod Grid
pub mod Steps
pub mod StepsIter
pub mod Examples
