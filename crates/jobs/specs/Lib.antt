pub mod Answers
pub mod Held
pub mod Loading
pub mod Memory
pub mod Stages
pub mod Tables
