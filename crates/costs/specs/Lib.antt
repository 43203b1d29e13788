pub mod Costing
