pub mod Journals
pub mod Laws
pub mod Maps
pub mod Replays
