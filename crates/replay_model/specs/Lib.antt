pub mod SameModel
