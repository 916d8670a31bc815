pub mod Chains
pub mod Chunks
pub mod Counting
pub mod Kept
pub mod ListLaws
pub mod Over
pub mod Prelude
pub mod Upward
