pub mod Layout
pub mod Moves
pub mod desk
pub mod face
pub mod forms
pub mod tree
pub mod words
