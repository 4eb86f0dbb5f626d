pub mod Turns
pub mod UsableConfig
pub mod Numbers
pub mod RefusalNumbers
pub mod Alike
