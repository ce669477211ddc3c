pub mod Nodes
pub mod RowTypes
pub mod BinderShapes
