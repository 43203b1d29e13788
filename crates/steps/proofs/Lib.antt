pub mod Leaving
pub mod Rooms
pub mod Products
pub mod Comparing
pub mod Remainders
