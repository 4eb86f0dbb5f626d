-- Laws of the distance.
pub mod Size
pub mod Symmetric
pub mod Bound
pub mod Limit
pub mod GridLaws
pub mod Columns
