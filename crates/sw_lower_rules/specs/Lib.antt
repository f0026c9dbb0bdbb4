pub mod Bodies
pub mod Carriers
pub mod Expressions
pub mod Statements
pub mod Tables
pub mod Uses
