pub mod Auditing
pub mod Driving
pub mod Journals
pub mod Pinned
pub mod Shares
pub mod Threads
pub mod Writing
