pub mod Zeros
pub mod Lists
pub mod Waiting
pub mod Whole
pub mod Words
