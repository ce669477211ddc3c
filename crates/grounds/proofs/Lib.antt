pub mod Every
pub mod Filled
pub mod Ground4
pub mod Stop
pub mod Ground5
pub mod Ground6
pub mod Grounds
