pub mod Rendering
pub mod WriteLaws
