pub mod Form
pub mod Adding
pub mod Promises
pub mod Cases
