pub mod Taken
pub mod Unset
