-- Lemmas of the machine of tree and collector.
pub mod calls
pub mod engine
pub mod nodes
pub mod threads
pub mod world
