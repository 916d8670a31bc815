pub mod LineLaws
pub mod LeftLaws
