pub mod CircleLaws
pub mod LinkIn
pub mod OrderLaws
pub mod PairLaws
pub mod RunLaws
pub mod SortingLaws
pub mod Walk
