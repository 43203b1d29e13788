pub mod Showing
pub mod Windowed
pub mod Reading
