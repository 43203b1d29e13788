pub mod Sizes
pub mod Decoding
pub mod Lines
pub mod Stretching
pub mod Checking
