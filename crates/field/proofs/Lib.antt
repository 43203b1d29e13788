pub mod Residues
pub mod Signs
pub mod Answers
pub mod Entries
pub mod Coded
