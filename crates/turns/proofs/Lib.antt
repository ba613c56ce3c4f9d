pub mod Acting
pub mod Border
pub mod Owning
pub mod Starting
