pub mod Puts
pub mod Places
pub mod Cases
