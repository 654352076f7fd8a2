pub mod Keys
pub mod Leasts
pub mod Ends
pub mod Gives
pub mod Lists
pub mod Numbers
