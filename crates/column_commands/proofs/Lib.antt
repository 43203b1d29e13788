pub mod Signing
pub mod Commands
