pub mod Reads
pub mod Opens
pub mod Firsts
pub mod Failed
pub mod Starts
pub mod Takes
pub mod Looks
pub mod Values
