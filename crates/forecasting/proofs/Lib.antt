pub mod Looking
pub mod Heads
