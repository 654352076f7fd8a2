-- The calls for real threads.
pub mod Attempt
pub mod Exchange
pub mod Handle
pub mod Ordering
pub mod Packed
pub mod Participant
pub mod Pinned
pub mod Pins
pub mod Pointer
pub mod Queue
pub mod Tokens
