pub mod Cluster
pub mod FixLabels
pub mod StepsSlices
pub mod Steps
pub mod Examples
