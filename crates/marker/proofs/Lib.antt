pub mod Places
pub mod Turns
pub mod Promises
pub mod Cases
