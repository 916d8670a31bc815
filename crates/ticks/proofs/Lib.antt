pub mod Wholes
pub mod HeldLaws
pub mod LaneLaws
