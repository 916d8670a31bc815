pub mod ChunkLaws
pub mod TwiceLaws
pub mod ResultLaws
