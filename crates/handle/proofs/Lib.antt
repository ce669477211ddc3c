pub mod Numbers
pub mod Blanks
pub mod Editing
pub mod Passing
pub mod Choosing
pub mod Told
pub mod Gates
