pub mod HeadLaws
pub mod Capacity
