pub mod Layout
pub mod Tags
pub mod Lent
pub mod Holds
pub mod Writing
pub mod Words
pub mod Ensured
pub mod Reading
