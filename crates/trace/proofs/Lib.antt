pub mod Fixes
pub mod Parts
pub mod Placed
pub mod Coming
pub mod WithoutEmpty
pub mod EmptyFront
