pub mod Ring
pub mod Lists
pub mod Rows
pub mod Tests
