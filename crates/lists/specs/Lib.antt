pub mod Lists
pub mod StepsParts
