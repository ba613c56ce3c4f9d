pub mod Buffers
pub mod Calls
