-- The formats of 01's texts: records of fields, and what the bytes of lines, events and entries say.
pub mod Records
pub mod Lines
pub mod Touches
pub mod Lists
pub mod Heads
