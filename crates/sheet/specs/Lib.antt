pub mod Framed
pub mod Reading
