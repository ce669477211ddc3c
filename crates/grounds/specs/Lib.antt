pub mod Table
pub mod Tables
pub mod Counts
pub mod Accepted
