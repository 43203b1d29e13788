pub mod Reads
pub mod Remainders
pub mod Cutting
