pub mod Cells
pub mod Floats
pub mod Lanes
