pub mod Opening
pub mod Coming
pub mod Products
pub mod Comparing
pub mod Remainders
pub mod Cutting
