pub mod Heads
pub mod Layout
pub mod Reading
