pub mod Induction
pub mod Logic
