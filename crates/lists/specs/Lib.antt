pub mod Kept
pub mod Over
