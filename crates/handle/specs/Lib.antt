pub mod Events
pub mod Taking
