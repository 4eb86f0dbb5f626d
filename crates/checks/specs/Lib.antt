pub mod Traces
pub mod Tracks
pub mod Recounted
pub mod Steps
pub mod Examples
