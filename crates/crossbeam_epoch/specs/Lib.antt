pub mod Bags
pub mod Chain
pub mod Limits
pub mod Tags
pub mod face
pub mod world
