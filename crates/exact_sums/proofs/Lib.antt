pub mod Whole
pub mod WholeSums
pub mod WholeMoves
pub mod Afresh
pub mod Carried
pub mod Renumbered
pub mod WholeNetwork
