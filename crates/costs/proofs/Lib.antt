pub mod Marks
pub mod Ranging
pub mod Missing
pub mod Attempts
