pub mod Lines
pub mod Owning
pub mod Answers
