pub mod Places
pub mod Links
pub mod Tables
pub mod Chains
pub mod StepsPlaces
pub mod StepsTables
pub mod Examples
