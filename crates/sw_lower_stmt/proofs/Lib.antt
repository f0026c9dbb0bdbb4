pub mod Arms
pub mod CaseArms
pub mod GivenValues
pub mod Loops
pub mod Patterns
pub mod Switches
pub mod Whole
pub use Rattle.sw_lower_expr.proofs.Gathered
