pub mod Operators
pub mod Parts
pub mod Meaning
pub mod Fitting
