pub mod Callings
pub mod Finding
pub mod Laying
pub mod Located
pub mod Masking
pub mod Settling
pub mod Sevens
pub mod Turning
