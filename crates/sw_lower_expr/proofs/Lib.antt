pub mod Parts
pub use Rattle.sw_lower_uses.proofs.Gathered
