pub mod Edges
pub mod Links
pub mod Order
pub mod Sorting
