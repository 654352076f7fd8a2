pub mod Tags
pub mod face
pub mod world
