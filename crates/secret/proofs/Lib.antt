pub mod Sums
pub mod Testing
