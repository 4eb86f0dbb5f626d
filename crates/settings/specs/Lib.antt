pub mod Refusals
pub mod Checks
pub mod Settings
pub mod Tries
pub mod Examples
