pub mod FirstValues
pub mod Kinded
pub mod Kinds
pub mod Operands
pub mod Standing
pub mod Stuck
