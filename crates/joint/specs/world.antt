pub mod MapSteps
pub mod Whereabouts
pub mod World
