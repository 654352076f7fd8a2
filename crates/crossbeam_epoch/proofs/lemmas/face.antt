pub mod Guards
pub mod Notes
pub mod Pins
pub mod Updates
