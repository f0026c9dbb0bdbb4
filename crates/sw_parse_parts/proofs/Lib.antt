pub mod WordSets
pub mod BeginSets
pub mod NestSteps
pub mod Anywhere
pub mod RuleNests
pub mod TaskSteps
