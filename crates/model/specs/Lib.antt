pub mod Fields
pub mod System
