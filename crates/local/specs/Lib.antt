pub mod Unmasking
