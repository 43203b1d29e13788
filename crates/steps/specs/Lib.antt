pub mod Places
pub mod Promises
pub mod Remainders
