pub mod Bytes
pub mod Layout
pub mod Fields
pub mod Entries
pub mod Events
pub mod Answers
pub mod Promises
pub mod Cases
