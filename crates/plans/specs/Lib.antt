pub mod Lines
pub mod Loading
