pub mod Shape
pub mod Digits
