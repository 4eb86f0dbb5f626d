pub mod Network
pub mod MapState
pub mod Steps
