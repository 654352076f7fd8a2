pub mod Chains
pub mod Moments
pub mod Steps
