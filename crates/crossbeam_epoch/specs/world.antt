-- The machine of atomic steps.
pub mod Calls
pub mod Ending
pub mod Fits
pub mod Free
pub mod History
pub mod Log
pub mod Machine
pub mod Progress
pub mod Reach
pub mod Steps
pub mod Store
pub mod Tickets
pub mod WaitFree
pub mod Roots
pub mod Sealing
pub mod Rounds
