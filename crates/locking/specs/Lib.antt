pub mod Granted
pub mod Queued
