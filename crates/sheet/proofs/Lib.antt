pub mod Runs
pub mod Words
pub mod Spelling
pub mod Headers
pub mod Answers
pub mod Scripts
