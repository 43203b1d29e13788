pub mod Powers
pub mod Beaver
pub mod Putting
pub mod Spelling
