pub mod AnswerLaws
pub mod CellLaws
pub mod Held
pub mod JobIn
pub mod JobShape
pub mod Loads
pub mod StageLaws
