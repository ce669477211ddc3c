pub mod Laying
pub mod PartLaws
pub mod Copying
pub mod Cells
pub mod Deciding
