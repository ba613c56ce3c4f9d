pub mod Putting
pub mod Readings
pub mod Unused
