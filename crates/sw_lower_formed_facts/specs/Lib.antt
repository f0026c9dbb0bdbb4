-- The law speaks of `Programs` alone. The other files are what its proof shows on the way, each
-- resting on those before it: `Whole`, `Fitting`, `Safe`, `Ground`, `Forms`, `Taking`, `Trees`,
-- `EnumWords`.
pub mod Programs
pub mod Whole
pub mod Fitting
pub mod Safe
pub mod Ground
pub mod Forms
pub mod Taking
pub mod Trees
