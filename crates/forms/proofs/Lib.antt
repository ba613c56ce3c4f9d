pub mod Laws
pub mod Forms
pub mod Calls
pub mod Promises
pub mod Cases
