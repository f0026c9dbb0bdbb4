pub mod GlobalActorLemmas
pub mod KindLemmas
pub mod LimitLemmas
pub mod PayloadLemmas
pub mod PointLemmas
pub mod StraightLemmas
pub mod TableLemmas
pub mod WayLemmas
