pub mod Heap
pub mod Keys
pub mod Notes
pub mod forms
pub mod owned
pub mod protocol
