pub mod JobAndPlan
pub mod Lines
pub mod PlanLaws
pub mod PlanReading
pub mod PlanText
