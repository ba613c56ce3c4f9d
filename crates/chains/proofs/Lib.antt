pub mod Chains
pub mod Opened
pub mod Shown
pub mod Rings
pub mod Cases
