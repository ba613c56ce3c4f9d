pub mod Lockings
pub mod Marking
pub mod Sequences
pub mod Sweep
pub mod Unlocks
pub mod Waking
