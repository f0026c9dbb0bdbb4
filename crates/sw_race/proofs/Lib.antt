pub mod IndexLemmas
pub mod LeastLemmas
pub mod LiveLemmas
pub mod StepLemmas
pub mod TargetLemmas
pub mod UpdateLemmas
pub mod UsesLemmas
pub mod WithLemmas
