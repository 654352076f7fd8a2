pub mod Lending
pub mod Turns
