-- Simple values read no global variable, make no closure and no task, and call initialisers and
-- getters of properties alone.
pub mod Alone
pub mod Cases
pub mod Forms
pub mod Functions
pub mod Getters
pub mod Inits
pub mod Joining
pub mod Makers
pub mod Simple
pub mod Uses
pub mod Values
