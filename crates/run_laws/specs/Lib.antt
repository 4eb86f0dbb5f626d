pub mod KeptTrial
