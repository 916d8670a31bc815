pub mod Answers
pub mod Page
