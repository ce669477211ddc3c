pub mod Values
pub mod Found
pub mod Evaluations
pub mod Fits
