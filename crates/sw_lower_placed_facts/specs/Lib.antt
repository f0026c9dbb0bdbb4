pub mod Hosts
pub mod Allowed
pub mod Placing
pub mod Claims
pub mod Settled
pub mod Bodies
pub mod Programs
