pub mod Sheet
pub mod Accepted
pub mod Scan
