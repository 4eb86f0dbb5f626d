pub mod Trace
pub mod WithoutEmpty
pub mod Given
pub mod Steps
pub mod StepsTraces
pub mod StepsFixes
pub mod Examples
