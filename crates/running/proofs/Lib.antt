pub mod Hands
pub mod Handing
pub mod Handed
pub mod Forms
pub mod Values
pub mod Evaluating
