pub mod Gathering
pub mod Sets
pub mod Windowing
pub mod Values
