pub mod Answer
pub mod Journal
pub mod WordLemmas
pub mod Words
