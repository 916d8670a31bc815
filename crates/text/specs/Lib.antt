pub mod Suited
pub mod Numbers
pub mod Meaning
