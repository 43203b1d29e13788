pub mod Places
pub mod Partly
pub mod Copying
pub mod Parties
pub mod Blocks
pub mod Written
pub mod Layouts
