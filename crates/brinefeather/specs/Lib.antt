pub mod Desk
pub mod Promises
pub mod Cases
