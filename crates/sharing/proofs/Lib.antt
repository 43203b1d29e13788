pub mod Opened
pub mod Horner
pub mod Recovery
pub mod Numbers
pub mod Outcomes
pub mod Columns
