pub mod Bodies
pub mod Induction
pub mod Insides
pub mod Programs
pub mod Uses
