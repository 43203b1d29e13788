pub mod Cells
pub mod Keeping
pub mod Readiness
pub mod Performing
pub mod Signing
