pub mod Key
pub mod Mark
pub mod Promises
pub mod Cases
