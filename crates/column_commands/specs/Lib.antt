pub mod Does
pub mod Signing
