pub mod Figures
pub mod Blocks
pub mod Printed
pub mod Witness
pub mod Commanded
pub mod TwinSheets
pub mod Largest
