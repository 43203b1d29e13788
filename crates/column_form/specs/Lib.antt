pub mod Laid
pub mod Grids
