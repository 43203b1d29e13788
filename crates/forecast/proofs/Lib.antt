pub mod Taking
pub mod Registers
