pub mod Puts
pub mod Counts
pub mod Laws
pub mod LeafKinds
pub mod Shapes
pub mod Coded
