pub mod ArmLoops
pub mod CaseLoops
pub mod ReturnSteps
pub mod ArmSteps
