pub mod Going
pub mod Owning
pub mod Entry
