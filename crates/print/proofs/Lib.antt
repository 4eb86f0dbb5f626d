pub mod Pushes
pub mod LabelLines
pub mod Room
pub mod Sizes
pub mod InOrder
pub mod ReadBack
