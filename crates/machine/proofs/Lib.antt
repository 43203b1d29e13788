pub mod Commands
pub mod Going
pub mod Matching
pub mod Whole
pub mod Attempts
pub mod Loop
