pub mod PlansAnswer
pub mod PlansRun
