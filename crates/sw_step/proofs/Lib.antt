pub mod ArithmeticLemmas
pub mod EventLemmas
pub mod LineLemmas
pub mod StepLemmas
