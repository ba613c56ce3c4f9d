pub mod Doing
pub mod Handing
pub mod Ids
pub mod Making
pub mod Newborn
