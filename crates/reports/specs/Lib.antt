pub mod Reports
pub mod View
pub mod Labels
pub mod LabelMedians
pub mod Visits
pub mod Steps
pub mod Examples
