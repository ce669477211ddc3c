pub mod Few
pub mod Calling
pub mod Asking
pub mod Trying
pub mod Striding
pub mod Resting
